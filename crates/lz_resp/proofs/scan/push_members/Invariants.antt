use Rattle.lz_resp.proofs.scan.push_members.Given as goal
use Rattle.std.{proofs.Common.{◌≡◌, ◌++◌, take}, specs.List.{flat_map}}
use Rattle.lz_resp.specs.Scans.{member_text}

abbrev pub invariant-loop-key : goal.invariant-loop-key
invariant-loop-key l = l.text.items ≡ l.initial.text.items ++ flat_map (member_text l.room) (take l.key-index l.keys)

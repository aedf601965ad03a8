use Rattle.lz_resp.proofs.errors.push_shown.Given as goal
use Rattle.std.{proofs.Common.{◌≡◌, ◌++◌, take}, specs.Prelude.{map}}
use Rattle.lz_resp.specs.Commands.{on_line}

abbrev pub invariant-loop-byte : goal.invariant-loop-byte
invariant-loop-byte l = l.text.items ≡ l.initial.text.items ++ map on_line (take l.byte-index l.part)

use Rattle.lz_resp.proofs.info.push_rows.Given as goal
use Rattle.std.{proofs.Common.{◌≡◌, ◌++◌, take}, specs.List.{flat_map}}
use Rattle.lz_resp.specs.Queries.{row}

abbrev pub invariant-loop-name : goal.invariant-loop-name
invariant-loop-name l = l.text.items ≡ l.initial.text.items ++ flat_map (λ r. row r.0.now r.1) (take l.name-index l.numbers)

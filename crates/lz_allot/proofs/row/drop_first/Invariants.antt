use Rattle.lz_allot.proofs.row.drop_first.Given as goal
use Rattle.std.proofs.Common.{◌≡◌, ◌++◌, map, take, drop}
use Rattle.lz_allot.specs.Rows.{row_freed}

abbrev pub invariant-loop-row : goal.invariant-loop-row
invariant-loop-row l = l.rows ≡ map (row_freed l.freed) (take l.row-index l.initial.rows) ++ drop l.row-index l.initial.rows

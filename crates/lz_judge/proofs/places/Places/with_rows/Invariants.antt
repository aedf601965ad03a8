use Rattle.lz_judge.proofs.places.Places.with_rows.Given as goal
use Rattle.std.specs.Prelude.{map, take}
use Rattle.lz_judge.specs.Places.{IsTable}

abbrev pub invariant-loop-index : goal.invariant-loop-index
invariant-loop-index g l = IsTable (map g.T.Keyed.key (take l.index l.items)) l.places

use Rattle.lz_judge.proofs.places.Places.find.Given as goal
use Rattle.std.specs.Prelude.{map}
use Rattle.lz_judge.proofs.PlaceTables.{IsNotIn}

abbrev pub invariant-loop-step : goal.invariant-loop-step
invariant-loop-step g l = IsNotIn (map g.T.Keyed.key l.items) l.self l.key l.step

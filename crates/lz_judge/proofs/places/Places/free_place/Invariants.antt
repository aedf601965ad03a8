use Rattle.lz_judge.proofs.places.Places.free_place.Given as goal
use Rattle.lz_judge.specs.Places.{AreTaken}

abbrev pub invariant-loop-step : goal.invariant-loop-step
invariant-loop-step l = AreTaken l.self l.key l.step

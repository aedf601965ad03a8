use Rattle.lz_judge.proofs.ordering.misordered.Given as goal
use Rattle.std.proofs.Common.{take, reverse}
use Rattle.lz_judge.specs.Readings.{Floored}

abbrev pub invariant-loop-mark : goal.invariant-loop-mark
invariant-loop-mark l = Floored (reverse (take l.mark-index l.marks)) l.places l.floor.floor l.floor.top l.floor.used l.floor.least

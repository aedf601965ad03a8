use Rattle.lz_judge.proofs.census.take_census.Given as goal
use Rattle.std.proofs.Common.{take, reverse}
use Rattle.lz_judge.specs.Readings.{IsCensus}

abbrev pub invariant-loop-mark : goal.invariant-loop-mark
invariant-loop-mark l = IsCensus (reverse (take l.mark-index l.marks)) l.census.calls l.census.answers

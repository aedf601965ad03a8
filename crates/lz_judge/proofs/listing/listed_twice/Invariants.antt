use Rattle.lz_judge.proofs.listing.listed_twice.Given as goal
use Rattle.std.proofs.Common.{take, reverse}
use Rattle.lz_judge.specs.Readings.{Twice}

abbrev pub invariant-loop-point : goal.invariant-loop-point
invariant-loop-point l = Twice (reverse (take l.point-index l.points)) l.seen l.least

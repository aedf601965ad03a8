use Rattle.lz_judge.proofs.listing.refused_listed.Given as goal
use Rattle.std.proofs.Common.{take, reverse}
use Rattle.lz_judge.specs.Readings.{RefusedOnes}

abbrev pub invariant-loop-mark : goal.invariant-loop-mark
invariant-loop-mark l = RefusedOnes (reverse (take l.mark-index l.marks)) l.places l.least

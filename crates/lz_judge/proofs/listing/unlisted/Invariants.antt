use Rattle.lz_judge.proofs.listing.unlisted.Given as goal
use Rattle.std.proofs.Common.{take, reverse}
use Rattle.lz_judge.specs.Readings.{UnlistedOnes}

abbrev pub invariant-loop-mark : goal.invariant-loop-mark
invariant-loop-mark l = UnlistedOnes (reverse (take l.mark-index l.marks)) l.places l.least

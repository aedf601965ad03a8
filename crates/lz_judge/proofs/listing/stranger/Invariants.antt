use Rattle.lz_judge.proofs.listing.stranger.Given as goal
use Rattle.std.proofs.Common.{take, reverse}
use Rattle.lz_judge.specs.Readings.{Strangers}

abbrev pub invariant-loop-point : goal.invariant-loop-point
invariant-loop-point l = Strangers (reverse (take l.point-index l.points)) l.calls l.least

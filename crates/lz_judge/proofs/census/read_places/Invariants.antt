use Rattle.lz_judge.proofs.census.read_places.Given as goal
use Rattle.std.proofs.Common.{take, reverse}
use Rattle.lz_judge.specs.Readings.{HasPlaces}

abbrev pub invariant-loop-point : goal.invariant-loop-point
invariant-loop-point l = HasPlaces (reverse (take l.point-index l.points)) l.places

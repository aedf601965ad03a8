use Rattle.lz_judge.proofs.places.place_of.Goals as goal
use Rattle.std.proofs.Common.{refl}
use Rattle.lz_judge.specs.Places.{place_of}

pub returns-clause-value : goal.returns-clause-value
unfolding place_of
returns-clause-value c = refl

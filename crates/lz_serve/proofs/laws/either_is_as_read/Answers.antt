use Rattle.lz_serve.proofs.laws.either_is_as_read.Goals as goal
use Rattle.lz_serve.proofs.Languages.{either_is_as_read}

pub returns : goal.returns
returns c = either_is_as_read

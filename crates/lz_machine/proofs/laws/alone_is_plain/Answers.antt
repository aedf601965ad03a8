use Rattle.lz_machine.proofs.laws.alone_is_plain.Goals as goal
use Rattle.lz_machine.proofs.Alone.Crash.{alone_is_plain}

pub returns : goal.returns
returns c = alone_is_plain

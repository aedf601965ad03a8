use Rattle.lz_machine.proofs.laws.held_is_opened.Goals as goal
use Rattle.lz_machine.proofs.Open.OpenFailures.{held_is_opened}

pub returns : goal.returns
returns c = held_is_opened

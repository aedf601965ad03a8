use Rattle.lz_machine.proofs.laws.what_lasts.Goals as goal
use Rattle.lz_machine.proofs.Theorem.Reached.{what_lasts}

pub returns : goal.returns
returns c = what_lasts

use Rattle.lz_machine.proofs.laws.every_history.Goals as goal
use Rattle.lz_machine.proofs.Theorem.Reached.{every_history}

pub returns : goal.returns
returns c = every_history

use Rattle.lz_machine.proofs.laws.next_is_known.Goals as goal
use Rattle.lz_machine.proofs.Runs.CallerEvent.{next_is_known}

pub returns : goal.returns
returns c = next_is_known

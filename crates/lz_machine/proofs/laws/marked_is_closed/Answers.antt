use Rattle.lz_machine.proofs.laws.marked_is_closed.Goals as goal
use Rattle.lz_machine.proofs.Theorem.TraceOutside.{marked_is_closed}

pub returns : goal.returns
returns c = marked_is_closed

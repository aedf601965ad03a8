use Rattle.lz_machine.proofs.laws.left_is_start.Goals as goal
use Rattle.lz_machine.proofs.Theorem.JoinedRuns.{left_is_start}

pub returns : goal.returns
returns c = left_is_start

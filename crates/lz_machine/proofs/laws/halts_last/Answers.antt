use Rattle.lz_machine.proofs.laws.halts_last.Goals as goal
use Rattle.lz_machine.proofs.Theorem.LateCalls.{halts_last}

pub returns : goal.returns
returns c start w M P reached = halts_last start w M P reached

use Rattle.lz_machine.proofs.laws.refusals_are_right.Goals as goal
use Rattle.lz_machine.proofs.Alone.Halt.{refusals_are_right}

pub returns : goal.returns
returns c = refusals_are_right

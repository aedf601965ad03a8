use Rattle.lz_machine.proofs.laws.counts_are_right.Goals as goal
use Rattle.lz_machine.proofs.Theorem.NoSlotCounts.{counts_are_right}

pub returns : goal.returns
returns c = counts_are_right

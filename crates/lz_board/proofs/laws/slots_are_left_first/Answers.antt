use Rattle.lz_board.proofs.laws.slots_are_left_first.Goals as goal
use Rattle.lz_board.proofs.Upkeep.Reuse.{slots_are_left_first}

pub returns : goal.returns
returns c = slots_are_left_first

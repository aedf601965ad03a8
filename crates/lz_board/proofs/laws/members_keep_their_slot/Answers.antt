use Rattle.lz_board.proofs.laws.members_keep_their_slot.Goals as goal
use Rattle.lz_board.proofs.Walk.OneSlot.{keeps_its_slot}

pub returns : goal.returns
returns c = keeps_its_slot

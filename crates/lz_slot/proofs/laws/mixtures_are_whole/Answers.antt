use Rattle.lz_slot.proofs.Whole as whole
use Rattle.lz_slot.proofs.laws.mixtures_are_whole.Goals as goal

pub returns : goal.returns
returns c = whole.mixtures_are_whole

use Rattle.lz_slot.proofs.Whole as whole
use Rattle.lz_slot.proofs.laws.shut_stays_shut.Goals as goal

pub returns : goal.returns
returns c = whole.shut_stays_shut

use Rattle.lz_slot.proofs.Texts.Spellings as proved
use Rattle.lz_slot.proofs.laws.keys_are_refused.Goals as goal

pub returns : goal.returns
returns c = proved.keys_are_refused

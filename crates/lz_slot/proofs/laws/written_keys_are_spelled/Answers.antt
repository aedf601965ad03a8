use Rattle.lz_slot.proofs.Texts.Spellings as proved
use Rattle.lz_slot.proofs.laws.written_keys_are_spelled.Goals as goal

pub returns : goal.returns
returns c = proved.written_keys_are_spelled

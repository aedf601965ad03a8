use Rattle.lz_slot.proofs.Texts.Numerals as proved
use Rattle.lz_slot.proofs.laws.numbers_read_back.Goals as goal

pub returns : goal.returns
returns c = proved.numbers_read_back

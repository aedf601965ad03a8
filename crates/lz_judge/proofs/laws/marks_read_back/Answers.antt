use Rattle.lz_judge.proofs.Texts.MarkLine as proved
use Rattle.lz_judge.proofs.laws.marks_read_back.Goals as goal

pub returns : goal.returns
returns c = proved.marks_read_back

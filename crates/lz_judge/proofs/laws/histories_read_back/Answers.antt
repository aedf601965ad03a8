use Rattle.lz_judge.proofs.Texts.MarkLine as proved
use Rattle.lz_judge.proofs.laws.histories_read_back.Goals as goal

pub returns : goal.returns
returns c = proved.histories_read_back

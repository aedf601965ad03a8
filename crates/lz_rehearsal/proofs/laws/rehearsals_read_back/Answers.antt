use Rattle.lz_rehearsal.proofs.RehearsedText as proved
use Rattle.lz_rehearsal.proofs.laws.rehearsals_read_back.Goals as goal

pub returns : goal.returns
returns c = proved.rehearsals_read_back

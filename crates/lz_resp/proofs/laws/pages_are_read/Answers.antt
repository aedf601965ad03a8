use Rattle.lz_resp.proofs.laws.pages_are_read.Goals as goal
use Rattle.lz_resp.proofs.PageTexts.{pages_are_read}

pub returns : goal.returns
returns c = pages_are_read

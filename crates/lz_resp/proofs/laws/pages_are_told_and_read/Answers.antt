use Rattle.lz_resp.proofs.laws.pages_are_told_and_read.Goals as goal
use Rattle.lz_resp.proofs.ToldPages.{pages_are_told_and_read}

pub returns : goal.returns
returns c = pages_are_told_and_read

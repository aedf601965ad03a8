use Rattle.lz_resp.proofs.PageTexts.{pages_are_spelled}
use Rattle.lz_resp.proofs.laws.pages_are_spelled.Goals as goal

pub returns : goal.returns
returns c = pages_are_spelled

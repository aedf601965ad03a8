use Rattle.lz_resp.proofs.laws.any_pieces.Goals as goal
use Rattle.lz_resp.proofs.Texts.{any_pieces}

pub returns : goal.returns
returns c = any_pieces

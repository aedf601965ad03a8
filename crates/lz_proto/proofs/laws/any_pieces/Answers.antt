use Rattle.lz_proto.proofs.laws.any_pieces.Goals as goal
use Rattle.lz_proto.proofs.Texts.{any_pieces}

pub returns : goal.returns
returns c = any_pieces

use Rattle.lz_refinement.proofs.laws.turns_serve_key.Goals as goal
use Rattle.lz_refinement.proofs.Replies.LoneClient.{serve}

pub returns : goal.returns
returns c = serve

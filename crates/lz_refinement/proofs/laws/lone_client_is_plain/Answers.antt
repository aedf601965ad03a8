use Rattle.lz_refinement.proofs.laws.lone_client_is_plain.Goals as goal
use Rattle.lz_refinement.proofs.Replies.LoneClient.{lone_client}

pub returns : goal.returns
returns c = lone_client

use Rattle.lz_refinement.proofs.laws.in_turn_serves_key.Goals as goal
use Rattle.lz_refinement.proofs.Replies.LoneClient.{in_turn_serves}

pub returns : goal.returns
returns c = in_turn_serves

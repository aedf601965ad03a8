use Rattle.lz_refinement.proofs.laws.plain_calls_are_replies.Goals as goal
use Rattle.lz_refinement.proofs.Replies.KeyByKey.{plain_replies}

pub returns : goal.returns
returns c = plain_replies

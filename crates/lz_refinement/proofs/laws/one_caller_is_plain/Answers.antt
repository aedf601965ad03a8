use Rattle.lz_refinement.proofs.laws.one_caller_is_plain.Goals as goal
use Rattle.lz_refinement.proofs.Replies.OneCaller.{one_caller}

pub returns : goal.returns
returns c = one_caller

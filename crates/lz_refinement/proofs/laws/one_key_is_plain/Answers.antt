use Rattle.lz_refinement.proofs.laws.one_key_is_plain.Goals as goal
use Rattle.lz_refinement.proofs.Replies.OneKey.{one_key}

pub returns : goal.returns
returns c = one_key

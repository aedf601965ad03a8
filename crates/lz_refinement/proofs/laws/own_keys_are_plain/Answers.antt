use Rattle.lz_refinement.proofs.laws.own_keys_are_plain.Goals as goal
use Rattle.lz_refinement.proofs.Replies.KeyByKey.{own_keys}

pub returns : goal.returns
returns c = own_keys

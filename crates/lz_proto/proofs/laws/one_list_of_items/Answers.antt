use Rattle.lz_proto.proofs.laws.one_list_of_items.Goals as goal
use Rattle.lz_proto.proofs.Texts.{one_list}

pub returns : goal.returns
returns c = one_list

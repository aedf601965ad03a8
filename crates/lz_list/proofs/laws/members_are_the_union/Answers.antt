use Rattle.lz_list.proofs.laws.members_are_the_union.Goals as goal
use Rattle.lz_list.proofs.Traces.TraceWords.{union}

pub returns : goal.returns
returns c = union

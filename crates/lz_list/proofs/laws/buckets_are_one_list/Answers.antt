use Rattle.lz_list.proofs.laws.buckets_are_one_list.Goals as goal
use Rattle.lz_list.proofs.Traces.TraceWords.{one_list}

pub returns : goal.returns
returns c = one_list

use Rattle.lz_list.proofs.laws.members_are_those.Goals as goal
use Rattle.std.proofs.Common.{refl}
use Rattle.lz_list.{specs.Traces.{words_of_trace}, proofs.Traces.TraceWords.{members_after}}

pub returns : goal.returns
returns c slots buckets passes P few some law k = members_after slots buckets P few law (words_of_trace slots buckets passes P) refl refl refl some k

use Rattle.lz_list.proofs.laws.words_are_sorted.Goals as goal
use Rattle.std.proofs.Common.{refl}
use Rattle.lz_list.{specs.Traces.{words_of_trace}, proofs.Traces.TraceWords.{sorted_after}}

pub returns : goal.returns
returns c slots buckets passes P few law = sorted_after slots buckets P few law (words_of_trace slots buckets passes P) refl refl refl

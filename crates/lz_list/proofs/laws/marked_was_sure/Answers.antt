use Rattle.lz_list.proofs.laws.marked_was_sure.Goals as goal
use Rattle.lz_list.proofs.Traces.WalkEnd.{marked_was_sure}

pub returns : goal.returns
returns c buckets slots P0 k s P law quiet stood key mark is = marked_was_sure buckets slots P0 k s P law quiet stood key mark is

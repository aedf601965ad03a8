use Rattle.lz_list.proofs.laws.unmarked_surely.Goals as goal
use Rattle.lz_list.proofs.Traces.WalkEnd.{unmarked_surely}

pub returns : goal.returns
returns c buckets slots P0 k s P law quiet stood key mark is = unmarked_surely buckets slots P0 k s P law quiet stood key mark is

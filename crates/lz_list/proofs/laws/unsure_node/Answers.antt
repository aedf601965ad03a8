use Rattle.lz_list.proofs.laws.unsure_node.Goals as goal
use Rattle.lz_list.proofs.Traces.WalkEnd.{unsure_node}

pub returns : goal.returns
returns c buckets slots P0 k s P law quiet stood key still = unsure_node buckets slots P0 k s P law quiet stood key still

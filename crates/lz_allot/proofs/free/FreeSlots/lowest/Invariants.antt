use Rattle.lz_allot.proofs.free.FreeSlots.lowest.Given as goal
use Rattle.std.proofs.Common.{◌-◌}
use Rattle.lz_allot.proofs.LowestSlot.{IsLowest}

abbrev pub invariant-loop-node : goal.invariant-loop-node
invariant-loop-node l = IsLowest l.self-inside.words.items l.self-inside.first l.node

abbrev pub decreases-loop-node : goal.decreases-loop-node
decreases-loop-node l = l.self-inside.first - l.node

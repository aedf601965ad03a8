use Rattle.lz_allot.proofs.free.told_above.Given as goal
use Rattle.lz_allot.proofs.FilledTrees.{IsToldFrom}

abbrev pub invariant-loop-node : goal.invariant-loop-node
invariant-loop-node l = IsToldFrom l.initial.told.items l.told.items l.first l.node

abbrev pub decreases-loop-node : goal.decreases-loop-node
decreases-loop-node l = l.node

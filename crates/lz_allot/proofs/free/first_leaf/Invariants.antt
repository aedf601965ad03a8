use Rattle.lz_allot.proofs.free.first_leaf.Given as goal
use Rattle.std.proofs.Common.{◌-◌}
use Rattle.lz_allot.specs.Trees.{IsStart}

abbrev pub invariant-loop-first : goal.invariant-loop-first
invariant-loop-first l = IsStart l.first

abbrev pub decreases-loop-first : goal.decreases-loop-first
decreases-loop-first l = l.slots - l.first

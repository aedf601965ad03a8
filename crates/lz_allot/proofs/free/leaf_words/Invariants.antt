use Rattle.lz_allot.proofs.free.leaf_words.Given as goal
use Rattle.std.proofs.Common.{◌-◌, length}
use Rattle.lz_allot.proofs.FilledTrees.{AreFilled}

abbrev pub invariant-loop-done : goal.invariant-loop-done
invariant-loop-done l = AreFilled l.kinds l.initial.words.items l.words.items l.first l.done

abbrev pub decreases-loop-done : goal.decreases-loop-done
decreases-loop-done l = length l.kinds - l.done

use Rattle.lz_allot.proofs.free.first_leaf.Goals as goal
use Rattle.lz_allot.proofs.Trees.{next_start}

pub loop-first-preserved : goal.loop-first-preserved
loop-first-preserved c = next_start c.loop-first.first c.args.slots c.loop-first.invariant c.requires c.loop-first-test.true

use Rattle.lz_allot.proofs.free.leaf_words.Goals as goal
use Rattle.std.proofs.Common.{arith}
use Rattle.lz_allot.proofs.FilledTrees.{filled_all, filled_more, leaf_inside}

pub loop-done-preserved : goal.loop-done-preserved
loop-done-preserved c =
    let inside = leaf_inside _ _ _ c.requires.start _ _ c.loop-done.invariant c.loop-done-test.true (omega (arith, c.in_ok-words.ensures.len)) in
    filled_more _ _ _ c.requires.start _ _ c.loop-done.invariant _ inside c.word_of.ensures

pub returns-clause-slots : goal.returns-clause-slots
returns-clause-slots c = filled_all _ _ _ c.requires.start _ _ c.loop-done.invariant c.loop-done-test.false

use Rattle.lz_allot.proofs.free.free_of.Goals as goal
use Rattle.std.proofs.Common.{◌+◌, ◌∙◌, arith}
use Rattle.lz_allot.proofs.FilledTrees.{filled_shown, filled_tree}

pub invariant_of-result : goal.invariant_of-result
invariant_of-result c =
    filled_tree _ _ _ c.first_leaf-first.ensures.start c.requires c.first_leaf-first.ensures.room
    (omega (arith, c.in_ok-leaf_words.ensures.room, c.told_above-words.ensures.len))
    c.told_above-words.ensures.told
    (λ s. c.told_above-words.ensures.leaves (c.first_leaf-first.result + s) (omega arith) ∙ c.in_ok-leaf_words.ensures.slots s)

pub returns : goal.returns
returns c =
    filled_shown _ _ _ c.first_leaf-first.ensures.start c.requires c.first_leaf-first.ensures.room
    (omega (arith, c.in_ok-leaf_words.ensures.room, c.told_above-words.ensures.len))
    c.told_above-words.ensures.told
    (λ s. c.told_above-words.ensures.leaves (c.first_leaf-first.result + s) (omega arith) ∙ c.in_ok-leaf_words.ensures.slots s)

use Rattle.lz_allot.proofs.free.FreeSlots.lowest.Goals as goal
use Rattle.std.{proofs.{Common.{◌≡◌, ℕ, ◌+◌, ◌*◌, ◌<◌, ◌^◌, sym, ◌∙◌, subst, rules}, lemmas.List.{get_or_read}}, specs.Int.{trailing_zeros, w64}}
use Rattle.lz_allot.{specs.Trees.{word_at}, proofs.LowestSlot.{IsLowest, inside_words, lowest_at_root, lowest_child, lowest_leaf, none_below, root_inside}}

pub returns-then-index-eq0 : goal.returns-then-index-eq0
returns-then-index-eq0 c =
    let words = c.self.inside.words.items in
    let root : word_at words 0 ≡ 0 = sym (get_or_read words 0 _ (root_inside _ _ _ c.self.invariant) c.index.ensures 0) ∙ c.if-index-eq0.true in
    rw (← c.self.view_is) (sym (none_below words c.self.inside.first c.self.inside.slots c.self.invariant root))

pub loop-node-init : goal.loop-node-init
loop-node-init c =
    let words = c.self.inside.words.items in
    let root : c.index.result.now ≡ word_at words 0 = get_or_read words 0 _ (root_inside _ _ _ c.self.invariant) c.index.ensures 0 in
    lowest_at_root words c.self.inside.first c.self.inside.slots c.self.invariant (λ none. c.if-index-eq0.false (root ∙ none))

pub loop-node-preserved : goal.loop-node-preserved
loop-node-preserved c =
    let words = c.self.inside.words.items in
    let node = c.loop-node.node in
    let within = inside_words words c.self.inside.first c.self.inside.slots c.self.invariant node c.loop-node.invariant c.loop-node-test.true in
    let is : c.index-in-loop-node.result.now ≡ word_at words node = get_or_read words node _ within c.index-in-loop-node.ensures 0 in
    let fits : c.index-in-loop-node.result.now < 2 ^ 64 = search rules in
    subst (λ (w : ℕ). IsLowest words c.self.inside.first (64 * node + 1 + trailing_zeros w64 w)) (sym is)
    (lowest_child words c.self.inside.first c.self.inside.slots c.self.invariant node c.loop-node.invariant c.loop-node-test.true (subst (λ (w : ℕ). w < 2 ^ 64) is fits))

pub returns : goal.returns
returns c =
    let leaf = lowest_leaf c.self.inside.words.items c.self.inside.first c.self.inside.slots c.self.invariant c.loop-node.node c.loop-node.invariant c.loop-node-test.false in
    rw (← c.self.view_is, c.new.ensures) (sym leaf.1)

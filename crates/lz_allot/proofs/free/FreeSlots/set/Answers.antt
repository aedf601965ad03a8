use Rattle.lz_allot.proofs.free.FreeSlots.set.Goals as goal
use Rattle.std.{proofs.{Common.{◌≡◌, ◌≢◌, ℕ, ◌-◌, ◌/◌, ◌∙◌, refl, ap, arith, subst}, lemmas.List.{get_or_read}}, specs.{Int.{bit_at}, Prelude.{nat_lt}}}
use Rattle.lz_allot.{specs.Trees.{word_at}, proofs.SetSlots.{changed_by, half_above, half_begins, half_done, inside, kept_by, shows_set, whole}}
use Rattle.lz_allot.proofs.Trees.{slot_low}

pub loop-node-init : goal.loop-node-init
loop-node-init c =
    let low = slot_low _ _ _ _ _ c.self.view_is c.requires in
    record { first = refl; slots = refl; half = rw c.index.ensures (half_begins _ _ _ _ c.args.is_free c.self.invariant low) }

pub index-was-requires : goal.index-was-requires
index-was-requires c =
    let low = slot_low _ _ _ _ _ c.self.view_is c.requires in
    omega (arith, inside _ _ _ _ _ _ _ c.self.invariant low c.loop-node.invariant.half c.loop-node-test.true)

pub index_mut-requires : goal.index_mut-requires
index_mut-requires c =
    let low = slot_low _ _ _ _ _ c.self.view_is c.requires in
    omega (arith, inside _ _ _ _ _ _ _ c.self.invariant low c.loop-node.invariant.half c.loop-node-test.true)

pub loop-node-preserved-then-was-now : goal.loop-node-preserved-then-was-now
loop-node-preserved-then-was-now c =
    let words = c.loop-node.self-inside.words.items in
    let above = (c.loop-node.node - 1) / 64 in
    let half = c.loop-node.invariant.half in
    let low = slot_low _ _ _ _ _ c.self.view_is c.requires in
    let within = inside _ _ _ _ _ _ _ c.self.invariant low half c.loop-node-test.true in
    let was : c.index-was.result.now ≡ word_at words above = get_or_read words above _ within c.index-was.ensures 0 in
    let kept = subst (λ (w : ℕ). nat_lt 0 w ≡ nat_lt 0 c.with_bit-now.result) was (kept_by c.index-was.result.now c.with_bit-now.result c.if-was-now.true) in
    record {
      first = c.loop-node.invariant.first;
      slots = c.loop-node.invariant.slots;
      half = half_done _ _ _ _ _ _ _ _ c.self.invariant low half c.loop-node-test.true c.with_bit-now.type_inv c.with_bit-now.ensures.set
          (λ i lt other. c.with_bit-now.ensures.others i lt other ∙ ap (λ (w : ℕ). bit_at w i) was)
          kept;
    }

pub loop-node-preserved : goal.loop-node-preserved
loop-node-preserved c =
    let words = c.loop-node.self-inside.words.items in
    let above = (c.loop-node.node - 1) / 64 in
    let half = c.loop-node.invariant.half in
    let low = slot_low _ _ _ _ _ c.self.view_is c.requires in
    let within = inside _ _ _ _ _ _ _ c.self.invariant low half c.loop-node-test.true in
    let was : c.index-was.result.now ≡ word_at words above = get_or_read words above _ within c.index-was.ensures 0 in
    let changed = subst (λ (w : ℕ). nat_lt 0 w ≢ nat_lt 0 c.with_bit-now.result) was (changed_by c.index-was.result.now c.with_bit-now.result c.if-was-now.false) in
    record {
      first = c.loop-node.invariant.first;
      slots = c.loop-node.invariant.slots;
      half = half_above _ _ _ _ _ _ _ _ c.self.invariant low half c.loop-node-test.true c.with_bit-now.type_inv c.with_bit-now.ensures.set
          (λ i lt other. c.with_bit-now.ensures.others i lt other ∙ ap (λ (w : ℕ). bit_at w i) was)
          changed;
    }

pub invariant_of-self : goal.invariant_of-self
invariant_of-self c =
    let low = slot_low _ _ _ _ _ c.self.view_is c.requires in
    rw (c.loop-node.invariant.first, c.loop-node.invariant.slots)
    (whole _ _ _ _ _ c.self.invariant low _ _ c.loop-node.invariant.half c.loop-node-test.false)

pub returns : goal.returns
returns c =
    let low = slot_low _ _ _ _ _ c.self.view_is c.requires in
    rw (← c.self.view_is, c.loop-node.invariant.first, c.loop-node.invariant.slots)
    (shows_set _ _ _ _ _ c.self.invariant low _ _ c.loop-node.invariant.half c.loop-node-test.false)

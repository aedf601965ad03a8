use Rattle.lz_board.proofs.board.Board.list_slots.Goals as goal
use Rattle.std.proofs.Common.{◌≡◌, ◌⊎◌, inl, inr, ℕ, ◌+◌, ◌≤◌, Some, None, List, vec_capacity, vec_len, true, sym, ap, ◌∙◌, subst, arith}
use Rattle.lz_slot.specs.Limits.{largest_key}
use Rattle.lz_machine.specs.Yards.{IsInside}
use Rattle.lz_board.{specs.{Plays.{knowing, IsShownTo}, Seats.{part}, Glances.{Glanced}, Listings.{Listed, WasAway}}, proofs.Upkeep.Growth.{begins_of}}
use Rattle.lz_board.proofs.{Walk.{WalkerLemma.{shown_on}, ListedMore.{listed_some, listed_next}}, board.Board.list_slots.Goals.{in-Some, in_default}}

pub loop-index-preserved : goal.loop-index-preserved
loop-index-preserved c =
    let h = part c.args.pass.now in
    let inv = c.loop-index.invariant in
    let i = c.loop-index.index in
    let e = c.list_slot.ensures in
    let old = (part c.loop-index.pass).known in
    let new = (part c.list_slot.new.pass).known in
    let more = begins_of old new (e.shown.since.0, e.shown.since.1) in
    let same = e.part ∙ ap (knowing new) inv.same in
    record {
      here = e.here;
      same = same;
      since = (shown_on h old new inv.since (subst (λ g. IsShownTo new g) inv.same e.shown)).since;
      inside = subst IsInside (sym (e.here.2.pin ∙ ap (λ g. g.pin) e.part ∙ sym inv.here.2.pin)) inv.inside;
      listed = elim c.match-list_slot.branch [
        | in-Some w ↦
            let key = w.in-Some.key in
            let was : Glanced key h.begun new true = subst (λ g. Glanced key g.begun new true) inv.same w.in-Some.ensures.told in
            let others : (k : ℕ) → k ≤ largest_key → (Some key ≡ Some k) ⊎ WasAway i k h.begun new = λ k low. subst
            (λ g. (Some key ≡ Some k) ⊎ WasAway i k g.begun new) inv.same (subst (λ (t : ℕ). (Some key ≡ Some k) ⊎ WasAway t k
            (part c.loop-index.pass).begun new) c.new-slot.ensures (w.in-Some.ensures.others k low)) in
            subst (λ (ks : List ℕ). Listed c.args.from (i + 1) ks h.begun new) (sym (ap (λ v. v.items) w.keys-is ∙ w.push_reserved.ensures.items))
            (listed_some c.args.from i c.loop-index.keys.items h.begun old new more inv.listed key was others)
        | in_default w ↦
            let none : (k : ℕ) → k ≤ largest_key → (None ≡ Some k) ⊎ WasAway i k h.begun new = λ k low. elim (e.others k low) [
              | inl is ↦ absurd (w.in_default.not-Some k is)
              | inr away ↦ inr (subst (λ g. WasAway i k g.begun new) inv.same (subst (λ (t : ℕ). WasAway t k (part c.loop-index.pass).begun new) c.new-slot.ensures away))
            ] in
            subst (λ (ks : List ℕ). Listed c.args.from (i + 1) ks h.begun new) (sym (ap (λ v. v.items) w.keys-is))
            (listed_next c.args.from i c.loop-index.keys.items h.begun old new more inv.listed none)
      ];
      few = elim c.match-list_slot.branch [
        | in-Some w ↦ omega (arith, inv.few, c.if-len-most.false, ap (λ v. vec_len v) w.keys-is, w.push_reserved.ensures.len)
        | in_default w ↦ omega (arith, inv.few, ap (λ v. vec_len v) w.keys-is)
      ];
      slots = elim c.match-list_slot.branch [
        | in-Some w ↦ omega (arith, inv.slots, ap (λ v. vec_len v) w.keys-is, w.push_reserved.ensures.len)
        | in_default w ↦ omega (arith, inv.slots, ap (λ v. vec_len v) w.keys-is)
      ];
      upto = inr (omega (arith, c.loop-index-test.true));
      room = elim c.match-list_slot.branch [
        | in-Some w ↦ ap (λ v. vec_capacity v) w.keys-is ∙ w.push_reserved.ensures.capacity ∙ inv.room
        | in_default w ↦ ap (λ v. vec_capacity v) w.keys-is ∙ inv.room
      ];
    }

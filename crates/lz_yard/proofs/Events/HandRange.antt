-- The yard's parts fit, before and after an event.
use Rattle.std.proofs.{Common.{◌≡◌, ℕ, zero, suc, ◌<◌, ◌≤◌, length, sym, ap, ◌∙◌, subst, arith}, lemmas.Option.{slice_get-get_or}}
use Rattle.std.specs.Prelude.{Option, Some, IfSome, slice_index_or}
use Rattle.lz_machine.specs.{declared.actor.Actor.{Actor}, Yards.{Yard, actor_at, idle_actor}}
use Rattle.lz_yard.specs.Parts.{PartsFit, HasInRange}

if_some : (o : Option ℕ) (s : ℕ) (P : ℕ → Type 0) → o ≡ Some s → IfSome o P → P s
if_some o s P is has = subst (λ (q : Option ℕ). IfSome q P) is has

module _ (y : Yard) (known : ℕ) (fits : PartsFit y known) where
  -- what an actor has in hand is in range
  pub hand_fits : (a : ℕ) → 1 ≤ a → a ≤ length y.actors → HasInRange y.shape.slots (actor_at y a)
  hand_fits zero low high = absurd (omega (arith, low))
  hand_fits (suc i) low high = fits.hands i (slice_index_or y.actors i idle_actor) (slice_get-get_or y.actors i idle_actor (omega (arith, high)))

  module _ (a : ℕ) (low : 1 ≤ a) (high : a ≤ length y.actors) (hand : Actor) (is : hand ≡ actor_at y a) (s : ℕ) where
    pub slot_fits : hand.slot ≡ Some s → s < y.shape.slots
    slot_fits there = if_some (actor_at y a).slot s (λ t. t < y.shape.slots) (ap (λ (h : Actor). h.slot) (sym is) ∙ there) (hand_fits a low high).slot

    pub curr_fits : hand.curr ≡ Some s → s < y.shape.slots
    curr_fits there = if_some (actor_at y a).curr s (λ t. t < y.shape.slots) (ap (λ (h : Actor). h.curr) (sym is) ∙ there) (hand_fits a low high).curr

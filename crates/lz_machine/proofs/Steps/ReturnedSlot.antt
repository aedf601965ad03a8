-- A slot that an actor has reserved and not used is given back: what is said of slots, locks and reuse stays.
use Rattle.std.proofs.{lemmas.{Bool.{cases_eq, Decides.{nat_tests}}, Option.{same_Some, none-some}}, Common.{◌≡◌, ◌≢◌, inl, inr, ℕ, ◌≤◌, Bool, true, List}}
use Rattle.std.proofs.Common.{length, Some, None, refl, sym, ap, ◌∙◌, subst, arith, get_or-set_other, get_or-set_same, length-set}
use mathlib.Core.Bool.{false≢true}
use Rattle.lz_slot.{specs.Counted.{set_of_pass}, proofs.Counted.{of_pass_same, of_pass_other}}
use Rattle.lz_vault.specs.{declared.vault.Stage.{Stage}, Stages.{Cell, IsFree}}
use Rattle.lz_allot.specs.Uses.{Use, Free, Taken, use_of, give_back}
use Rattle.lz_list.specs.{Locks.{NodeLocks}, Traces.{Trace}}
use Rattle.lz_machine.specs.{declared.actor.{Actor.{Actor}, LockPhase.{LockPhase}}, Yards.{Shape, idle_actor, actor_in, stage_in}, Table.{with_slot, is_unused}}
use Rattle.lz_machine.specs.{SlotsSound.{is_free, SlotsSound}, LocksSound.{HasLock, RestsOn, LocksSound}, Sound.{ReuseSound}}
use Rattle.lz_machine.proofs.Frames.{NodeLocks.{held_locks}, Uses.{free_limbo}, OneSlot.{same_nodes, slot_turn}}

-- a stage that wasn't used has a closed gate
pub unused_closed : (stage : Stage) → is_unused stage ≡ true → IsFree stage
unused_closed stage is = grind (arith, nat_tests, false≢true)

-- and one with a closed gate wasn't used
pub closed_unused : (stage : Stage) → IsFree stage → is_unused stage ≡ true
closed_unused stage free = grind (arith, nat_tests)

module _ (shape : Shape) (cells : List Cell) (dead : Bool) (uses : List Use) (actors : List Actor) (P : Trace) (slots : SlotsSound shape cells dead uses actors P)
    (a s : ℕ) (low : 1 ≤ a) (high : a ≤ length actors) (has : (actor_in actors a).slot ≡ Some s) (unused : is_unused (stage_in cells s) ≡ true) where
  abbrev x : Actor
  x = with_slot (actor_in actors a) None

  abbrev actors' : List Actor
  actors' = set_of_pass actors a x

  abbrev uses' : List Use
  uses' = give_back uses s

  hand_a : actor_in actors' a ≡ x
  hand_a = of_pass_same actors a x idle_actor low high

  pub hand_b : (b : ℕ) → b ≢ a → actor_in actors' b ≡ actor_in actors b
  hand_b b other = of_pass_other actors a b x idle_actor other

  -- each slot in a hand was so before, and is another one
  pub held_then : (b t : ℕ) → (actor_in actors' b).slot ≡ Some t → (t ≢ s) × ((actor_in actors b).slot ≡ Some t)
  held_then b t slot = grind (arith, cases_eq, none-some, hand_a, hand_b)

  use_same : use_of uses' s ≡ Free
  use_same = get_or-set_same uses s Free Taken (omega (arith, (slots.hand a s has).in_range, slots.count))

  use_other : (t : ℕ) → t ≢ s → use_of uses' t ≡ use_of uses t
  use_other t other = get_or-set_other uses s t Free Taken other

  pub given_slots : SlotsSound shape cells dead uses' actors' P
  given_slots =
      let was = slots.hand a s has in
      slot_turn shape cells cells dead dead uses uses' actors actors' P P a s x hand_a hand_b (λ e. e)
      (record {
        slot = λ t apart is. absurd (none-some _ is);
        still_slot = λ t apart is. absurd (apart (same_Some _ _ (sym is ∙ has)));
        out = λ t apart is. record { node = is.node; removed = is.removed };
        still_out = λ t apart is. record { node = is.node; removed = is.removed };
        closer = λ t apart is. record { node = is.node; closes = is.closes };
        opener = λ t apart slot is. is;
        unlock = λ t apart slot is. is;
        shut = λ t apart curr is. (curr, is);
      })
      (λ t apart. refl) use_other (same_nodes shape.buckets s P)
      (record {
        stands = is_free was.loose use_same (unused_closed (stage_in cells s) unused);
        hand = λ is. absurd (none-some _ is);
        out = λ is. absurd (slots.hand_out a a s has (record { node = is.node; removed = is.removed }));
        hand_out = λ slot is. none-some _ slot;
        opened = λ slot is. absurd (none-some _ slot);
        closed = λ curr is. slots.closed a s curr is;
        no_other_hand = λ b other slot. other (slots.one_hand b a s slot has);
        no_other_out = λ b other is. slots.hand_out a b s has is;
        others_closed = λ b other curr is. slots.closed b s curr is;
      })
      (length-set uses s Free) slots slots.added slots.removed

  rests_still : (hold : LockPhase) → (actor_in actors a).hold ≡ hold → RestsOn shape.buckets hold (actor_in actors a) P → RestsOn shape.buckets hold x P
  rests_still hold is h = grind arith

  pub given_locks : (locks : NodeLocks) → LocksSound shape locks actors P → LocksSound shape locks actors' P
  given_locks locks h = held_locks shape locks actors actors' P a hand_b h
      (λ place lock. let mine = subst (λ (q : Actor). HasLock q place) hand_a lock in record { locks = mine.locks; among = mine.among })
      (subst (λ (q : Actor). RestsOn shape.buckets q.hold q P) (sym hand_a) (rests_still (actor_in actors a).hold refl (h.rests a)))

  pub given_reuse : (pins : List ℕ) (begun : ℕ → Trace) → ReuseSound shape pins uses actors P begun → ReuseSound shape pins uses' actors' P begun
  given_reuse pins begun h = record {
    worn = h.worn;
    sights = λ t seen limbo. elim (cases_eq t s) [
      | inl same ↦ absurd (free_limbo (sym use_same ∙ ap (use_of uses') (sym same) ∙ limbo))
      | inr other ↦ h.sights t seen (sym (use_other t other) ∙ limbo)
    ];
    seen = λ b t seen limbo. elim (cases_eq t s) [
      | inl same ↦ absurd (free_limbo (sym use_same ∙ ap (use_of uses') (sym same) ∙ limbo))
      | inr other ↦ h.seen b t seen (sym (use_other t other) ∙ limbo)
    ];
    free = λ b t free inside. elim (cases_eq t s) [
      | inl same ↦ h.reserved b a t (has ∙ ap Some (sym same)) inside
      | inr other ↦ h.free b t (sym (use_other t other) ∙ free) inside
    ];
    reserved = λ b d t slot inside. h.reserved b d t (held_then d t slot).1 inside;
  }

  pub given_none : (actor_in actors' a).slot ≡ None
  given_none = ap (λ (q : Actor). q.slot) hand_a

  pub given_hold : (actor_in actors' a).hold ≡ (actor_in actors a).hold
  given_hold = ap (λ (q : Actor). q.hold) hand_a

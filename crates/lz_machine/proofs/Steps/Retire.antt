-- Retire keeps the invariant: the slot goes to limbo, and no pass has been seen since.
use Rattle.std.proofs.Common.{◌≡◌, ◌≢◌, ◌⊎◌, inl, inr, ℕ, zero, suc, ◌<◌, ◌≤◌, List, length, replicate, get_or, Option, Some, refl, sym, ap, ◌∙◌, subst, arith}
use Rattle.std.proofs.{Common.{get_or-set_other, get_or-set_same, length-set}, lemmas.{Bool.{cases_eq, cases_lt}, List.{get_or-replicate, length-replicate}}}
use Rattle.std.{proofs.lemmas.Option.{none-some}, specs.Prelude.{unwrap_or}}
use mathlib.Core.Bool.{false≢true}
use Rattle.lz_slot.specs.{declared.command.Command.TheVariants.{Remove}, Counted.{of_pass, set_of_pass}, Histories.{History}}
use Rattle.lz_slot.proofs.Counted.{length-set_of_pass}
use Rattle.lz_disk.specs.Images.{Medium}
use Rattle.lz_allot.specs.{declared.sight.Sight.{Sight, TheVariants.{Unseen, Left}}, Uses.{Use, Taken, Limbo, use_of, retire}}
use Rattle.lz_list.specs.Traces.{Trace}
use Rattle.lz_machine.specs.declared.{event.{Event.TheVariants.{Retire}, Outcome.TheVariants.{Done}, Reply.TheVariants.{Yes}}, actor.Actor.{Actor}}
use Rattle.lz_machine.specs.declared.{actor.LockPhase.TheVariants.{Nothing}, caller.{Sequence.TheVariants.{Removing}, Progress.{Progress}}}
use Rattle.lz_machine.specs.{declared.caller.Progress.TheVariants.{Playing, Answering}, Yards.{Yard, actor_at, IsInside, actor_in, pin_in}}
use Rattle.lz_machine.specs.{Table.{with_hold, yard_done}, Calls.{progress_after}, Runs.{Caller, caller_at}, Limbo.{IsRightSight}, Notes.{Notes}}
use Rattle.lz_machine.specs.{SlotsSound.{opens, has_removed_node, IsOut, is_limbo, SlotsSound}, LocksSound.{HasLock, RestsOn}}
use Rattle.lz_machine.specs.{CallersSound.{Relies, view_of, CallerSound}, Sound.{ReuseSound, Sound}}
use Rattle.lz_machine.proofs.Frames.{OneActor.{moving, callers_turn, ledger_turn}, SameYard.{in_passes, tails_turn}, NodeLocks.{held_locks}}
use Rattle.lz_machine.proofs.Frames.{Hand.{same_hand, other_hand}, Uses.{inside_range, limbo_same, free_limbo}, ActorTable.{field_stays}}
use Rattle.lz_machine.proofs.{Frames.OneSlot.{node_grips, same_nodes, slot_turn}, Steps.Hop.{call_at, own}}

module _ (n calls : ℕ) (y : Yard) (callers : List (Option Caller)) (disk : Medium) (M : History) (P : Trace) (notes : Notes) (sound : Sound n calls y callers disk M P notes) (a i k s : ℕ) (is : caller_at callers a ≡ Some (call_at i (Remove k) (Playing (Removing s) 6))) where
  abbrev at : Progress
  at = Playing (Removing s) 6

  h : Relies (view_of y.shape y.vault y.actors a) (Remove k) at (notes.begun a) P (notes.changed a)
  h = (own n calls y callers disk M P notes a i (Remove k) at is sound).stands.2

  abbrev x : Actor
  x = with_hold (actor_at y a) Nothing

  abbrev actors' : List Actor
  actors' = set_of_pass y.actors a x

  abbrev uses' : List Use
  uses' = retire y.shape.passes y.uses s

  hand_a : actor_in actors' a ≡ x
  hand_a = same_hand n calls y callers disk M P notes a (call_at i (Remove k) at) is sound x

  hand_b : (b : ℕ) → b ≢ a → actor_in actors' b ≡ actor_in y.actors b
  hand_b b other = other_hand n calls y callers disk M P notes a (call_at i (Remove k) at) is sound x b other

  out_a : IsOut (actor_in y.actors a) s
  out_a = record { node = h.0; removed = ap has_removed_node h.2.0 }

  lt : s < y.shape.slots
  lt = (sound.slots.out a s out_a).in_range

  use_same : use_of uses' s ≡ Limbo (replicate y.shape.passes Unseen)
  use_same = get_or-set_same y.uses s (Limbo (replicate y.shape.passes Unseen)) Taken (omega (arith, lt, sound.slots.count))

  use_other : (t : ℕ) → t ≢ s → use_of uses' t ≡ use_of y.uses t
  use_other t other = get_or-set_other y.uses s t (Limbo (replicate y.shape.passes Unseen)) Taken other

  slot_still : (b : ℕ) → (actor_in actors' b).slot ≡ (actor_in y.actors b).slot
  slot_still = field_stays (Option ℕ) (λ q. q.slot) y.actors actors' a x hand_a hand_b refl

  retired_slots : SlotsSound y.shape y.vault.cells y.vault.dead uses' actors' P
  retired_slots =
      let gone = sound.slots.out a s out_a in
      slot_turn y.shape y.vault.cells y.vault.cells y.vault.dead y.vault.dead y.uses uses' y.actors actors' P P a s x hand_a hand_b (λ e. e)
      (node_grips y.vault.dead y.vault.dead s (actor_in y.actors a) x h.0 h.0 refl (ap (opens y.vault.dead) h.2.0) refl) (λ t apart. refl) use_other (same_nodes y.shape.buckets s P)
      (record {
        stands = is_limbo (replicate y.shape.passes Unseen) gone.loose use_same gone.stage;
        hand = λ has. absurd (sound.slots.hand_out a a s has out_a);
        out = λ out. absurd (false≢true out.removed);
        hand_out = λ has out. false≢true out.removed;
        opened = λ has e. absurd (false≢true e);
        closed = λ curr e. absurd (false≢true e);
        no_other_hand = λ b other has. sound.slots.hand_out b a s has out_a;
        no_other_out = λ b other out. other (sound.slots.one_out b a s out out_a);
        others_closed = λ b other curr e. sound.slots.closed b s curr e;
      })
      (length-set y.uses s _) sound.slots sound.slots.added sound.slots.removed

  -- no pass has been seen yet
  unseen : (b m : ℕ) → (of_pass (replicate m Unseen) b Left ≡ Unseen) ⊎ (((1 ≤ b) × (b ≤ m)) → ⊥)
  unseen zero m = inr (λ r. omega (arith, r.0))
  unseen (suc j) m = elim (cases_lt j m) [
    | inl within ↦ inl (get_or-replicate m j Unseen Left within)
    | inr past ↦ inr (λ r. omega (arith, r.1, past))
  ]

  seen_new : (b : ℕ) (sight : Sight) → (sight ≡ Unseen) ⊎ (IsInside (pin_in y.words.pins b) → ⊥) → (sight ≡ Unseen) ⊎ (sight ≡ Left) → IsRightSight y.shape.buckets (pin_in y.words.pins b) (notes.begun b) P s sight
  seen_new b sight why one = grind arith

  retired_reuse : ReuseSound y.shape y.words.pins uses' actors' P notes.begun
  retired_reuse = record {
    worn = sound.reuse.worn;
    sights = λ t seen limbo. elim (cases_eq t s) [
      | inl same ↦ ap length (limbo_same (sym limbo ∙ ap (use_of uses') same ∙ use_same)) ∙ length-replicate y.shape.passes Unseen
      | inr other ↦ sound.reuse.sights t seen (sym (use_other t other) ∙ limbo)
    ];
    seen = λ b t seen limbo. elim (cases_eq t s) [
      | inl same ↦
          subst (λ (q : ℕ). IsRightSight y.shape.buckets (pin_in y.words.pins b) (notes.begun b) P q (of_pass seen b Left)) (sym same)
          (subst (λ (l : List Sight). IsRightSight y.shape.buckets (pin_in y.words.pins b) (notes.begun b) P s (of_pass l b Left)) (sym (limbo_same (sym limbo ∙ ap (use_of uses') same ∙ use_same)))
          (fresh b))
      | inr other ↦ sound.reuse.seen b t seen (sym (use_other t other) ∙ limbo)
    ];
    free = λ b t free inside. elim (cases_eq t s) [
      | inl same ↦ absurd (free_limbo (sym (sym use_same ∙ ap (use_of uses') (sym same) ∙ free)))
      | inr other ↦ sound.reuse.free b t (sym (use_other t other) ∙ free) inside
    ];
    reserved = λ b d t slot inside. sound.reuse.reserved b d t (sym (slot_still d) ∙ slot) inside;
  }
    where
      fresh : (b : ℕ) → IsRightSight y.shape.buckets (pin_in y.words.pins b) (notes.begun b) P s (of_pass (replicate y.shape.passes Unseen) b Left)
      fresh b = elim (unseen b y.shape.passes) [
        | inl none ↦ subst (IsRightSight y.shape.buckets (pin_in y.words.pins b) (notes.begun b) P s) (sym none) tt
        | inr outside ↦ never b (λ inside. let r = inside_range y.words.pins b inside in outside (r.0, omega (arith, r.1, sound.trace.pins)))
      ]
        where
          all_unseen : (j m : ℕ) → (get_or (replicate m Unseen) j Left ≡ Unseen) ⊎ (get_or (replicate m Unseen) j Left ≡ Left)
          all_unseen j zero = inr refl
          all_unseen zero (suc m) = inl refl
          all_unseen (suc j) (suc m) = all_unseen j m

          either : (d : ℕ) → (of_pass (replicate y.shape.passes Unseen) d Left ≡ Unseen) ⊎ (of_pass (replicate y.shape.passes Unseen) d Left ≡ Left)
          either zero = inr refl
          either (suc j) = all_unseen j y.shape.passes

          never : (d : ℕ) → (IsInside (pin_in y.words.pins d) → ⊥) → IsRightSight y.shape.buckets (pin_in y.words.pins d) (notes.begun d) P s (of_pass (replicate y.shape.passes Unseen) d Left)
          never d no_inside = seen_new d (of_pass (replicate y.shape.passes Unseen) d Left) (inr no_inside) (either d)

  pub retire_keeps : Sound n calls (yard_done y (actor_at y a) a Retire) (moving callers a (call_at i (Remove k) at) (progress_after y.shape (Remove k) at Done)) disk M P notes
  retire_keeps =
      let me = own n calls y callers disk M P notes a i (Remove k) at is sound in
      let done : Sound n calls (record { shape = y.shape; words = y.words; locks = y.locks; vault = y.vault; uses = uses'; actors = actors' }) (moving callers a (call_at i (Remove k) at) (Answering Yes)) disk M P notes = record {
        trace = sound.trace;
        images = sound.images;
        slots = retired_slots;
        locks = held_locks y.shape y.locks y.actors actors' P a hand_b sound.locks
            (λ place lock. absurd (false≢true (subst (λ (q : Actor). HasLock q place) hand_a lock).locks))
            (subst (λ (q : Actor). RestsOn y.shape.buckets q.hold q P) (sym hand_a) tt);
        callers = callers_turn callers a (call_at i (Remove k) at) is (Answering Yes) y.shape y.vault y.words.pins y.actors actors' P notes (length-set_of_pass y.actors a x) hand_b
            (subst (λ (q : Actor). CallerSound (record {
              buckets = y.shape.buckets;
              passes = y.shape.passes;
              format = y.vault.format;
              cells = y.vault.cells;
              dead =
                  y.vault.dead;
              actor = q;
            }) (pin_in y.words.pins a) (Some (call_at i (Remove k) (Answering Yes))) (notes.begun a) P (notes.changed a)) (sym hand_a)
            (record { quiet = me.quiet; begins = me.begins; stands = (me.stands.0, me.stands.1, (h.2.1, inl refl)) }))
            sound.callers;
        reuse = retired_reuse;
        ledger = ledger_turn callers a (call_at i (Remove k) at) is (Answering Yes) n calls y.shape.passes P M notes sound.ledger;
        tails = tails_turn callers a (call_at i (Remove k) at) is (Answering Yes) y.shape.passes notes
            (in_passes n calls y callers disk M P notes a (call_at i (Remove k) at) is sound)
            (λ none is. absurd (none-some _ (sym (sym h.2.1.is ∙ none)))) y.shape y.vault.cells y.actors actors' P M slot_still sound.tails;
      } in
      subst (λ (q : ℕ). Sound n calls (record {
        shape = y.shape;
        words = y.words;
        locks = y.locks;
        vault = y.vault;
        uses = retire y.shape.passes y.uses q;
        actors =
            actors';
      }) (moving callers a (call_at i (Remove k) at) (Answering Yes)) disk M P notes) (sym (ap (λ (q : Option ℕ). unwrap_or q 0) h.0)) done

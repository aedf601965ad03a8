-- Seeing a pin, and asking for a slot, keep the invariant.
use Rattle.std.proofs.Common.{◌≡◌, ◌≢◌, ◌⊎◌, inl, inr, ℕ, ◌<◌, nat_lt, Bool, true, false, List, length, Option, Some, None, refl, sym, ap, ◌∙◌, subst, arith}
use Rattle.std.proofs.{Common.{get_or-set_other, get_or-set_same, length-set}, lemmas.Bool.{cases_Bool, cases_eq, Decides.{nat_tests}}}
use Rattle.std.proofs.lemmas.{List.Quantifiers.{position-Some}, Option.{same_Some, none-some}}
use mathlib.Core.Bool.{false≢true}
use Rattle.lz_slot.specs.{declared.command.Command.{Command, TheVariants.{Add, Remove}}, Counted.{set_of_pass}, Histories.{History}, Sets.{key_of}}
use Rattle.lz_slot.proofs.Counted.{length-set_of_pass}
use Rattle.lz_disk.specs.Images.{Medium}
use Rattle.lz_allot.specs.declared.sight.Sight.{Sight}
use Rattle.lz_allot.specs.Uses.{Use, Free, Taken, Limbo, use_of, collect, see_pin, lowest_free, take_slot, is_free as is_free_use, counts}
use Rattle.lz_list.specs.{declared.word.Word.TheVariants.{Pin as pin_at}, Words.{get}, Traces.{Trace}}
use Rattle.lz_machine.specs.declared.event.{Event.TheVariants.{Reserve, SeePin}, Outcome.TheVariants.{Done, NoSlot}, Reply.TheVariants.{Full}}
use Rattle.lz_machine.specs.declared.{actor.{Actor.{Actor}, LockPhase.{LockPhase, TheVariants.{Nothing}}}, caller.Progress.{Progress}}
use Rattle.lz_machine.specs.{declared.caller.Progress.TheVariants.{Reserving, SeeingPins}, Yards.{Yard, actor_at, actor_in, pin_in, cell_in, stage_in}}
use Rattle.lz_machine.specs.{Table.{with_slot, reserved, slot_found, yard_done, outcome_of}, Calls.{progress_after, after_see_pin, after_reserve}}
use Rattle.lz_machine.specs.{Runs.{Caller, caller_at}, Limbo.{IsAway}, Notes.{Notes}}
use Rattle.lz_machine.specs.{SlotsSound.{closes, opens, shuts, unlocks, has_removed_node, is_held, SlotsSound, IsGateOpened}, LocksSound.{HasLock, RestsOn}}
use Rattle.lz_machine.specs.{CallersSound.{IsAdder, MayAnswer, CallerSound, is_before_pin, WasAbsent}, Sound.{ReuseSound, Sound}}
use Rattle.lz_machine.proofs.Frames.{OneActor.{moving, callers_turn, ledger_turn}, SameYard.{KeepsTail, in_passes, tail_turn}, NodeLocks.{held_locks}}
use Rattle.lz_machine.proofs.Frames.{Hand.{range, same_hand, other_hand, hands_keep}, Grip.{fresh_grip}, BesideKey.{opened_shut}}
use Rattle.lz_machine.proofs.Frames.{ChainSlots.{free_taken, free_stands}, OneSlot.{slot_grips, same_nodes, slot_turn}, KeptSlots.{slots_uses}}
use Rattle.lz_machine.proofs.{Frames.{Uses.{KeepsUses, seen_keeps, seen_reuse, collect_keeps, collect_reuse}, Outside.{inside_side}}, Steps.Walk.{GoesOn}}
use Rattle.lz_machine.proofs.Steps.Hop.{call_at, own, goes_on_keeps, own_inside}

-- the yard with other uses
abbrev pub with_uses : Yard → List Use → Yard
with_uses y uses = record { shape = y.shape; words = y.words; locks = y.locks; vault = y.vault; uses = uses; actors = y.actors }

module _ (n calls : ℕ) (y : Yard) (callers : List (Option Caller)) (disk : Medium) (M : History) (P : Trace) (notes : Notes) (sound : Sound n calls y callers disk M P notes) where
  pub uses_keep : (uses : List Use) → KeepsUses y.uses uses → ReuseSound y.shape y.words.pins uses y.actors P notes.begun → Sound n calls (with_uses y uses) callers disk M P notes
  uses_keep uses keeps reuse = record {
    trace = sound.trace;
    images = sound.images;
    slots = slots_uses y.shape y.vault.cells y.vault.dead y.actors y.uses uses P keeps sound.slots;
    locks = sound.locks;
    callers = sound.callers;
    reuse = reuse;
    ledger = sound.ledger;
    tails = sound.tails;
  }

  pub collected : Sound n calls (with_uses y (collect y.uses)) callers disk M P notes
  collected = uses_keep (collect y.uses) (collect_keeps y.uses) (collect_reuse y.shape y.words.pins y.uses y.actors P notes.begun sound.reuse)

  -- a pin word is looked at
  pub see_pin_keeps : (a i : ℕ) (c : Command) (p : ℕ) → caller_at callers a ≡ Some (call_at i c (SeeingPins p))
      → Sound n calls (yard_done y (actor_at y a) a (SeePin p (get y.words (pin_at p)))) (moving callers a (call_at i c (SeeingPins p)) (progress_after y.shape c (SeeingPins p) Done)) disk M P notes
  see_pin_keeps a i c p is =
      let h = (own n calls y callers disk M P notes a i c (SeeingPins p) is sound).stands.2 in
      let seen = uses_keep (see_pin p (pin_in y.words.pins p) y.uses) (seen_keeps p (pin_in y.words.pins p) y.uses) (seen_reuse p (pin_in y.words.pins p) y.shape y.words.pins y.uses y.actors P notes.begun refl h.2 h.3 sound.reuse) in
      goes_on_keeps n calls (with_uses y (see_pin p (pin_in y.words.pins p) y.uses)) callers disk M P notes a i c (SeeingPins p) is seen (after_see_pin y.shape p) refl (λ none is. absurd (false≢true is)) (elim (cases_Bool (nat_lt p y.shape.passes)) [
        | inl less ↦ rw less (record { relies = (record { hold = h.0.hold; none = h.0.none }, h.1, omega arith, grind (arith, nat_tests, less), h.4, h.5); inside = refl })
        | inr last ↦ rw last (record { relies = (record { hold = h.0.hold; none = h.0.none }, h.1, h.4, h.5); inside = refl })
      ])

-- the use of a slot after one was taken
take_same : (uses : List Use) (s : ℕ) → s < length uses → use_of (take_slot uses s) s ≡ Taken
take_same uses s lt = get_or-set_same uses s Taken Taken lt

take_other : (uses : List Use) (s t : ℕ) → t ≢ s → use_of (take_slot uses s) t ≡ use_of uses t
take_other uses s t other = get_or-set_other uses s t Taken Taken other

-- an actor with nothing in hand takes a free slot
module _ (n calls : ℕ) (y : Yard) (callers : List (Option Caller)) (disk : Medium) (M : History) (P : Trace) (notes : Notes) (a i : ℕ) (c : Command) (at : Progress)
    (is : caller_at callers a ≡ Some (call_at i c at)) (sound : Sound n calls y callers disk M P notes) (s : ℕ) (lt : s < length y.uses) (free : use_of y.uses s ≡ Free)
    (nothing : (actor_at y a).hold ≡ Nothing) (no_slot : (actor_at y a).slot ≡ None) where
  abbrev x : Actor
  x = with_slot (actor_at y a) (Some s)

  abbrev actors' : List Actor
  actors' = set_of_pass y.actors a x

  abbrev uses' : List Use
  uses' = take_slot y.uses s

  hand_a : actor_in actors' a ≡ x
  hand_a = same_hand n calls y callers disk M P notes a (call_at i c at) is sound x

  hand_b : (b : ℕ) → b ≢ a → actor_in actors' b ≡ actor_in y.actors b
  hand_b b other = other_hand n calls y callers disk M P notes a (call_at i c at) is sound x b other

  in_it : s < y.shape.slots
  in_it = omega (arith, lt, sound.slots.count)

  -- each slot in a hand, after it: the one that was taken, or one of before
  held_then : (b t : ℕ) → (actor_in actors' b).slot ≡ Some t → ((b ≡ a) × (t ≡ s)) ⊎ ((b ≢ a) × (t ≢ s) × ((actor_in y.actors b).slot ≡ Some t))
  held_then b t h = elim (cases_eq b a) [
    | inl same ↦ inl (same, same_Some _ _ (sym h ∙ ap (λ (q : ℕ). (actor_in actors' q).slot) same ∙ ap (λ (q : Actor). q.slot) hand_a))
    | inr other ↦
        let was : (actor_in y.actors b).slot ≡ Some t = ap (λ (q : Actor). q.slot) (sym (hand_b b other)) ∙ h in
        inr (other, (λ it. free_taken free (ap (use_of y.uses) (sym it) ∙ (sound.slots.hand b t was).taken)), was)
  ]

  take_slots : SlotsSound y.shape y.vault.cells y.vault.dead uses' actors' P
  take_slots =
      let mine = free_stands y.shape y.vault.cells y.vault.dead y.uses y.actors P s sound.slots in_it free in
      slot_turn y.shape y.vault.cells y.vault.cells y.vault.dead y.vault.dead y.uses uses' y.actors actors' P P a s x hand_a hand_b (λ e. e)
      (slot_grips y.vault.dead y.vault.dead s (actor_in y.actors a) x (λ t apart has. none-some _ (sym no_slot ∙ has)) (λ t apart has. apart (same_Some _ _ (sym has)))
      (ap (closes y.vault.dead) nothing) (ap has_removed_node nothing) (ap has_removed_node nothing) (ap shuts nothing)) (λ t apart. refl) (take_other y.uses s) (same_nodes y.shape.buckets s P)
      (record {
        stands = is_held a (ap (λ (q : Actor). q.slot) hand_a);
        hand = λ has. record { in_range = in_it; loose = mine.0; taken = take_same y.uses s lt; stage = inl mine.1 };
        out = λ out. absurd (false≢true (ap has_removed_node (sym nothing) ∙ out.removed));
        hand_out = λ has out. false≢true (ap has_removed_node (sym nothing) ∙ out.removed);
        opened = λ has e. absurd (false≢true (ap unlocks (sym nothing) ∙ e));
        closed = λ curr e. absurd (false≢true (ap shuts (sym nothing) ∙ e));
        no_other_hand = λ b other has. free_taken free (sound.slots.hand b s has).taken;
        no_other_out = λ b other out. free_taken free (sound.slots.out b s out).taken;
        others_closed = λ b other curr e. sound.slots.closed b s curr e;
      })
      (length-set y.uses s Taken) sound.slots sound.slots.added sound.slots.removed

  take_reuse : ReuseSound y.shape y.words.pins uses' actors' P notes.begun
  take_reuse =
      let h = sound.reuse in
      record {
        worn = h.worn;
        sights = λ t seen limbo. h.sights t seen (limbo_then t seen limbo);
        seen = λ b t seen limbo. h.seen b t seen (limbo_then t seen limbo);
        free = λ b t is' inside. h.free b t (free_then t is') inside;
        reserved = λ b d t slot inside. elim (held_then d t slot) [
          | inl new ↦ subst (λ (q : ℕ). IsAway y.shape.buckets (notes.begun b) P q) (sym new.1) (h.free b s free inside)
          | inr old ↦ h.reserved b d t old.2 inside
        ];
      }
    where
      limbo_then : (t : ℕ) (seen : List Sight) → use_of uses' t ≡ Limbo seen → use_of y.uses t ≡ Limbo seen
      limbo_then t seen limbo = elim (cases_eq t s) [
        | inl same ↦ absurd (taken_limbo (sym (take_same y.uses s lt) ∙ ap (use_of uses') (sym same) ∙ limbo))
        | inr other ↦ sym (take_other y.uses s t other) ∙ limbo
      ]
        where
          taken_limbo : Taken ≡ Limbo seen → ⊥
          taken_limbo e = absurd cc

      free_then : (t : ℕ) → use_of uses' t ≡ Free → use_of y.uses t ≡ Free
      free_then t is' = elim (cases_eq t s) [
        | inl same ↦ absurd (free_taken is' (ap (use_of uses') same ∙ take_same y.uses s lt))
        | inr other ↦ sym (take_other y.uses s t other) ∙ is'
      ]

  pub take_keeps : (next : Progress) → is_before_pin at ≡ false → KeepsTail (notes.changed a) at next → GoesOn (record { buckets = y.shape.buckets; passes = y.shape.passes; format = y.vault.format; cells = y.vault.cells; dead = y.vault.dead; actor = x }) c next (notes.begun a) P (notes.changed a)
      → Sound n calls (record { shape = y.shape; words = y.words; locks = y.locks; vault = y.vault; uses = uses'; actors = actors' }) (moving callers a (call_at i c at) next) disk M P notes
  take_keeps next inside keeps goes =
      let me = own n calls y callers disk M P notes a i c at is sound in
      record {
        trace = sound.trace;
        images = sound.images;
        slots = take_slots;
        locks = held_locks y.shape y.locks y.actors actors' P a hand_b sound.locks
            (λ place lock. let mine = subst (λ (q : Actor). HasLock q place) hand_a lock in record { locks = mine.locks; among = mine.among })
            (subst (λ (q : Actor). RestsOn y.shape.buckets q.hold q P) (sym hand_a) (subst (λ (q : LockPhase). RestsOn y.shape.buckets q x P) (sym nothing) tt));
        callers = callers_turn callers a (call_at i c at) is next y.shape y.vault y.words.pins y.actors actors' P notes (length-set_of_pass y.actors a x) hand_b
            (subst (λ (q : Actor). CallerSound (record {
              buckets = y.shape.buckets;
              passes = y.shape.passes;
              format = y.vault.format;
              cells = y.vault.cells;
              dead =
                  y.vault.dead;
              actor = q;
            }) (pin_in y.words.pins a) (Some (call_at i c next)) (notes.begun a) P (notes.changed a)) (sym hand_a)
            (record {
              quiet = me.quiet;
              begins = me.begins;
              stands = (
                inside_side (pin_in y.words.pins a) next goes.inside
                    (own_inside n calls y callers disk M P notes a i c at is sound inside),
                me.stands.1,
                goes.relies,
              );
            }))
            sound.callers;
        reuse = take_reuse;
        ledger = ledger_turn callers a (call_at i c at) is next n calls y.shape.passes P M notes sound.ledger;
        tails = record {
          adding = λ b t slot opened. tail_turn callers a (call_at i c at) is next y.shape.passes notes (in_passes n calls y callers disk M P notes a (call_at i c at) is sound) keeps (Add (cell_in y.vault.cells t).key) M (elim (held_then b t slot) [
            | inl new ↦ absurd (opened_shut (stage_in y.vault.cells s) (subst (λ (q : ℕ). IsGateOpened (stage_in y.vault.cells q)) new.1 opened) (free_stands y.shape y.vault.cells y.vault.dead y.uses y.actors P s sound.slots in_it free).1)
            | inr old ↦ sound.tails.adding b t old.2 opened
          ]);
          removing = λ t there unmarked written. tail_turn callers a (call_at i c at) is next y.shape.passes notes (in_passes n calls y callers disk M P notes a (call_at i c at) is sound) keeps (Remove (cell_in y.vault.cells t).key) M (sound.tails.removing t there unmarked written);
        };
      }

-- An actor that asks for a slot.
module _ (n calls : ℕ) (y : Yard) (callers : List (Option Caller)) (disk : Medium) (M : History) (P : Trace) (notes : Notes) (sound : Sound n calls y callers disk M P notes) (a i : ℕ) (c : Command) (again : Bool) (is : caller_at callers a ≡ Some (call_at i c (Reserving again))) where
  abbrev uses : List Use
  uses = collect y.uses

  abbrev then : Option ℕ → Yard
  then found = record { shape = y.shape; words = y.words; locks = y.locks; vault = y.vault; uses = reserved uses found; actors = set_of_pass y.actors a (with_slot (actor_at y a) found) }

  abbrev next : Option ℕ → Progress
  next found = progress_after y.shape c (Reserving again) (slot_found found uses)

  me : CallerSound (record { buckets = y.shape.buckets; passes = y.shape.passes; format = y.vault.format; cells = y.vault.cells; dead = y.vault.dead; actor = actor_at y a }) (pin_in y.words.pins a) (Some (call_at i c (Reserving again))) (notes.begun a) P (notes.changed a)
  me = own n calls y callers disk M P notes a i c (Reserving again) is sound

  full_relies : (d : Command) → IsAdder d → notes.changed a ≡ None → WasAbsent (key_of d) (notes.begun a) P → MayAnswer d (Full (counts uses)) (notes.begun a) P (notes.changed a)
  full_relies (Add k) adder none absent = (none, absent, adder)
  full_relies _ adder none absent = absurd adder

  -- no slot is free
  none_goes : (b : Bool) → GoesOn (record { buckets = y.shape.buckets; passes = y.shape.passes; format = y.vault.format; cells = y.vault.cells; dead = y.vault.dead; actor = with_slot (actor_at y a) None }) c (after_reserve b (NoSlot (counts uses))) (notes.begun a) P (notes.changed a)
  none_goes false =
      let r = range n calls y callers disk M P notes a (call_at i c (Reserving again)) is sound (actor_at y a) in
      record { relies = (record { hold = me.stands.2.0.hold; none = me.stands.2.0.none }, refl, omega arith, omega (arith, r.0, r.1, sound.callers.hands), me.stands.2.2, me.stands.2.3); inside = refl }
  none_goes true = record { relies = (full_relies c me.stands.2.2 me.stands.2.0.none me.stands.2.3, inl me.stands.2.0.hold); inside = refl }

  none_keeps : Sound n calls (then None) (moving callers a (call_at i c (Reserving again)) (next None)) disk M P notes
  none_keeps =
      let h = me.stands.2 in
      let y' : Yard = with_uses y uses in
      let sound' : Sound n calls y' callers disk M P notes = collected n calls y callers disk M P notes sound in
      let x = with_slot (actor_at y a) None in
      let hand = same_hand n calls y' callers disk M P notes a (call_at i c (Reserving again)) is sound' x in
      let goes = none_goes again in
      hands_keep n calls y' callers disk M P notes a (call_at i c (Reserving again)) is sound' x y.locks (next None) (λ none is. absurd (false≢true is))
      (held_locks y.shape y.locks y.actors (set_of_pass y.actors a x) P a (other_hand n calls y' callers disk M P notes a (call_at i c (Reserving again)) is sound' x) sound.locks
      (λ place lock. let mine = subst (λ (q : Actor). HasLock q place) hand lock in record { locks = mine.locks; among = mine.among })
      (subst (λ (q : Actor). RestsOn y.shape.buckets q.hold q P) (sym hand) (subst (λ (q : LockPhase). RestsOn y.shape.buckets q x P) (sym h.0.hold) tt)))
      (fresh_grip y.vault.dead (actor_at y a) x (ap (closes y.vault.dead) h.0.hold) (ap (opens y.vault.dead) h.0.hold) (ap has_removed_node h.0.hold) (ap has_removed_node h.0.hold) (ap shuts h.0.hold) (ap unlocks h.0.hold) (sym h.1))
      (record { quiet = me.quiet; begins = me.begins; stands = (inside_side (pin_in y.words.pins a) (next None) goes.inside me.stands.0, me.stands.1, goes.relies) })

  -- the lowest free slot
  some_keeps : (s : ℕ) → lowest_free uses ≡ Some s → Sound n calls (then (Some s)) (moving callers a (call_at i c (Reserving again)) (next (Some s))) disk M P notes
  some_keeps s found =
      let h = me.stands.2 in
      let y' : Yard = with_uses y uses in
      let sound' : Sound n calls y' callers disk M P notes = collected n calls y callers disk M P notes sound in
      let at = position-Some is_free_use uses s Taken found in
      take_keeps n calls y' callers disk M P notes a i c (Reserving again) is sound' s at.0 (is_it (use_of uses s) at.1) h.0.hold h.1 (next (Some s)) refl (λ none is. absurd (false≢true is))
      (record { relies = (record { hold = h.0.hold; none = h.0.none }, refl, h.2); inside = refl })
    where
      is_it : (u : Use) → is_free_use u ≡ true → u ≡ Free
      is_it Free free = refl
      is_it _ free = absurd (false≢true free)

  pub reserve_keeps : Sound n calls (yard_done y (actor_at y a) a Reserve) (moving callers a (call_at i c (Reserving again)) (progress_after y.shape c (Reserving again) (outcome_of y (actor_at y a) Reserve))) disk M P notes
  reserve_keeps = go (lowest_free uses) refl
    where
      go : (found : Option ℕ) → lowest_free uses ≡ found → Sound n calls (yard_done y (actor_at y a) a Reserve) (moving callers a (call_at i c (Reserving again)) (progress_after y.shape c (Reserving again) (outcome_of y (actor_at y a) Reserve))) disk M P notes
      go None found = subst (λ (q : Option ℕ). Sound n calls (then q) (moving callers a (call_at i c (Reserving again)) (next q)) disk M P notes) (sym found) none_keeps
      go (Some s) found = subst (λ (q : Option ℕ). Sound n calls (then q) (moving callers a (call_at i c (Reserving again)) (next q)) disk M P notes) (sym found) (some_keeps s found)

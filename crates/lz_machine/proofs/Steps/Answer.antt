-- An answer keeps the invariant: the pass is outside then, a slot that wasn't used is given back, and the call ends with its row.
use Rattle.std.proofs.Common.{◌≡◌, ◌≢◌, ◌⊎◌, ⊎_elim, inl, inr, ℕ, ◌≤◌, ◌+◌, ◌%◌, not, ◌||◌, if◌then◌else◌, Bool, true, false, List, ◌∷◌, length, Option, Some}
use Rattle.std.proofs.{Common.{None, refl, sym, ap, ◌∙◌, subst, arith}, lemmas.Bool.{cases_Bool, Decides.{nat_tests}}}
use mathlib.Core.Bool.{false≢true}
use Rattle.lz_slot.specs.{declared.{command.Command.{Command, TheVariants.{Add, Remove}}, history.HistoryEvent.{HistoryEvent}}, Sets.{Keys}, Counted.{set_of_pass}}
use Rattle.lz_slot.{specs.Histories.{History}, proofs.Counted.{of_pass_same, of_pass_other, length-set_of_pass}}
use Rattle.lz_disk.specs.Images.{Medium}
use Rattle.lz_vault.specs.Vaults.{medium_after}
use Rattle.lz_allot.specs.Uses.{Use, see_pin, give_back, is_outside}
use Rattle.lz_list.specs.{Words.{Words}, Traces.{Trace, halt_word}}
use Rattle.lz_machine.specs.declared.{event.{Event.TheVariants.{Answer}, Outcome.TheVariants.{Done, NotNow}, Reply.{Reply}}, actor.Actor.{Actor}}
use Rattle.lz_machine.specs.declared.{actor.LockPhase.TheVariants.{Nothing}, course.Course.{Course}, caller.Progress.TheVariants.{Answering}}
use Rattle.lz_machine.specs.Yards.{Yard, actor_at, idle_actor, IsInside, actor_in, pin_in, stage_in}
use Rattle.lz_machine.specs.Table.{last_pin, stays_out, pin_of, needs, course, line, line_on, call_on, yard_done, with_slot, kept_slot, given_back, is_unused}
use Rattle.lz_machine.specs.{Runs.{Caller, caller_at, mark_of, played}, LocksSound.{HasLock, RestsOn, LocksSound}, Notes.{Notes, entries}}
use Rattle.lz_machine.specs.CallersSound.{view_of, is_before_pin, side_of, IsEmptyHanded, MayAnswer, Relies, CallerSound, CallersSound}
use Rattle.lz_machine.specs.{SlotsSound.{opens, SlotsSound}, LedgerSound.{TailsSound}, Sound.{TraceSound, ReuseSound, IsAfter, Sound, UpSound}}
use Rattle.lz_machine.proofs.{Runs.Course.{answer_plays}, Frames.{ActorTable.{by_actor}, OneActor.{caller_range, carry}, Outside.{out_even, side_even}}}
use Rattle.lz_machine.proofs.Frames.{Grip.{keeps_itself}, KeptSlots.{slots_turn, slots_uses}, NodeLocks.{held_locks}, Hand.{reuse_turn}}
use Rattle.lz_machine.proofs.Frames.{Uses.{seen_keeps, seen_reuse}, PinNotes.{IsNoted, noted_same, noted_out}, ChangeNotes.{IsTold, told_ended, told_out}}
use Rattle.lz_machine.proofs.{Frames.PinOrder.{since_out}, Steps.{Hop.{call_at, own}, Pin.{pinned, trace_pinned, left_reuse}}}
use Rattle.lz_machine.proofs.Steps.ReturnedSlot.{closed_unused, given_slots, given_locks, given_reuse, given_none, given_hold, held_then, hand_b}
use Rattle.lz_machine.proofs.Ledger.{Parts.{ending, ends_now, none_now, changed_still, gone, stays_open}, End.{after_ended, tail_ended}, Reply.{EndsSo, ends}}

module _ (n calls : ℕ) (y : Yard) (callers : List (Option Caller)) (disk : Medium) (M : History) (P : Trace) (notes : Notes) (sound : Sound n calls y callers disk M P notes) (after : IsAfter y.words.pins callers (entries y.shape.passes callers notes) M notes.begun)
    (a i : ℕ) (c : Command) (says : Reply) (is : caller_at callers a ≡ Some (call_at i c (Answering says))) (le : a ≤ y.shape.passes) (how : EndsSo n calls y.shape.passes callers P M notes a i le sound.ledger y.words.pins after c says is) where
  abbrev notes' : Notes
  notes' = ends_now notes a how.last

  abbrev m : HistoryEvent
  m = mark_of i says

  -- the tails of the calls that are still open, or were cut off
  ended_tails : (actors' : List Actor) → ((b t : ℕ) → (actor_in actors' b).slot ≡ Some t → (actor_in y.actors b).slot ≡ Some t)
      → TailsSound y.shape y.vault.cells actors' P (ending callers a) (entries y.shape.passes (ending callers a) notes') (m ∷ M)
  ended_tails actors' slot_then = record {
    adding = λ b t slot opened. tail_ended n calls y.shape.passes callers P M notes a (call_at i c (Answering says)) is le sound.ledger y.words.pins after m how.marks how.last how.is_last (Add _) how.tail (sound.tails.adding b t (slot_then b t slot) opened);
    removing = λ t there unmarked written. tail_ended n calls y.shape.passes callers P M notes a (call_at i c (Answering says)) is le sound.ledger y.words.pins after m how.marks how.last how.is_last (Remove _) how.tail (sound.tails.removing t there unmarked written);
  }

  -- the callers, where one has ended
  ended_callers : (actors' : List Actor) (pins' : List ℕ) → length actors' ≡ length y.actors → ((b : ℕ) → b ≢ a → actor_in actors' b ≡ actor_in y.actors b) → ((b : ℕ) → b ≢ a → pin_in pins' b ≡ pin_in y.words.pins b)
      → CallerSound (view_of y.shape y.vault actors' a) (pin_in pins' a) None (notes.begun a) P None
      → CallersSound y.shape y.vault pins' actors' (ending callers a) P notes'
  ended_callers actors' pins' count others same_pins mine = record {
    count = length-set_of_pass callers a None ∙ sound.callers.count;
    hands = count ∙ sound.callers.hands;
    each = by_actor (λ b. CallerSound (view_of y.shape y.vault actors' b) (pin_in pins' b) (caller_at (ending callers a) b) (notes'.begun b) P (notes'.changed b)) a
        (subst (λ (q : Option Caller). CallerSound (view_of y.shape y.vault actors' a) (pin_in pins' a) q (notes.begun a) P (notes'.changed a)) (sym (gone callers notes a how.last (call_at i c (Answering says)) is))
        (subst (λ (q : Option ℕ). CallerSound (view_of y.shape y.vault actors' a) (pin_in pins' a) None (notes.begun a) P q) (sym (none_now callers notes a how.last (call_at i c (Answering says)) is)) mine))
        (λ b other. carry y.shape.buckets y.shape.passes y.vault.format y.vault.cells y.vault.dead P (actor_in y.actors b) (actor_in actors' b) (pin_in y.words.pins b)
        (pin_in pins' b) (caller_at callers b) (caller_at (ending callers a) b) (notes.begun b) (notes'.begun b) (notes.changed b) (notes'.changed b)
        (others b other) (same_pins b other) (stays_open callers notes a how.last (call_at i c (Answering says)) is b other) refl (changed_still callers notes a how.last (call_at i c (Answering says)) is b other) (sound.callers.each b));
  }

  pub ended_after : (pins' : List ℕ) → ((b : ℕ) → b ≢ a → pin_in pins' b ≡ pin_in y.words.pins b) → IsAfter pins' (ending callers a) (entries y.shape.passes (ending callers a) notes') (m ∷ M) notes'.begun
  ended_after pins' others = after_ended n calls y.shape.passes callers P M notes a (call_at i c (Answering says)) is le sound.ledger y.words.pins after m how.marks how.last how.is_last pins' others

  low : 1 ≤ a
  low = (caller_range callers a (call_at i c (Answering says)) is).0

  in_actors : a ≤ length y.actors
  in_actors = omega (arith, le, sound.callers.hands)

  -- these may be the words after the answer, and this is its pin word
  pub record Leaves (words' : Words) (to : ℕ) : Type 0 where
    pub trace : TraceSound y.shape words' P
    pub pin : to ≡ pin_in words'.pins a
    pub outside : IsInside (pin_in words'.pins a) → ⊥
    pub others : (b : ℕ) → b ≢ a → pin_in words'.pins b ≡ pin_in y.words.pins b
    pub reuse : ReuseSound y.shape words'.pins y.uses y.actors P notes.begun

  -- a call that was refused outside leaves its pin word
  pub stays_outside : pin_in y.words.pins a % 2 ≡ 0 → Leaves y.words (pin_in y.words.pins a)
  stays_outside even = record { trace = sound.trace; pin = refl; outside = λ inside. omega (arith, inside, even); others = λ b other. refl; reuse = sound.reuse }

  -- the pass goes out
  pub goes_out : IsInside (pin_in y.words.pins a) → pin_in y.words.pins a ≢ last_pin → Leaves (pinned y.words a) (pin_in y.words.pins a + 1)
  goes_out inside fresh =
      let in_pins : a ≤ length y.words.pins = omega (arith, le, sound.trace.pins) in
      let now : pin_in (pinned y.words a).pins a ≡ pin_in y.words.pins a + 1 = of_pass_same y.words.pins a (pin_in y.words.pins a + 1) 0 low in_pins in
      record {
        trace = trace_pinned y.shape y.words P a sound.trace;
        pin = sym now;
        outside = λ still. omega (arith, still, now, inside);
        others = λ b other. of_pass_other y.words.pins a b (pin_in y.words.pins a + 1) 0 other;
        reuse = left_reuse y.shape y.vault.cells y.vault.dead y.words.pins y.uses y.actors P notes a low in_pins sound.slots sound.reuse inside fresh;
      }

  module _ (words' : Words) (to : ℕ) (leaves : Leaves words' to) where
    -- the yard in which the pass is outside, with these uses and actors
    abbrev left_yard : List Use → List Actor → Yard
    left_yard uses actors' = record { shape = y.shape; words = words'; locks = y.locks; vault = y.vault; uses = see_pin a to uses; actors = actors' }

    left_sound : (uses : List Use) (actors' : List Actor) → length actors' ≡ length y.actors → ((b : ℕ) → b ≢ a → actor_in actors' b ≡ actor_in y.actors b)
        → ((b t : ℕ) → (actor_in actors' b).slot ≡ Some t → (actor_in y.actors b).slot ≡ Some t) → IsEmptyHanded (actor_in actors' a) P
        → SlotsSound y.shape y.vault.cells y.vault.dead uses actors' P → LocksSound y.shape y.locks actors' P → ReuseSound y.shape words'.pins uses actors' P notes.begun
        → Sound n calls (left_yard uses actors') (ending callers a) disk (m ∷ M) P notes'
    left_sound uses actors' count others slot_then idle slots locks reuse = record {
      trace = leaves.trace;
      images = sound.images;
      slots = slots_uses y.shape y.vault.cells y.vault.dead actors' uses (see_pin a to uses) P (seen_keeps a to uses) slots;
      locks = locks;
      callers = ended_callers actors' words'.pins count others leaves.others (record { quiet = λ still. absurd (leaves.outside still); begins = λ still. absurd (leaves.outside still); stands = (idle, refl) });
      reuse = seen_reuse a to y.shape words'.pins uses actors' P notes.begun leaves.pin low le reuse;
      ledger = how.ledger;
      tails = ended_tails actors' slot_then;
    }

    -- it keeps what it has in hand
    module _ (x : Actor) (same : x ≡ actor_in y.actors a) where
      abbrev actors' : List Actor
      actors' = set_of_pass y.actors a x

      all_same : (b : ℕ) → actor_in actors' b ≡ actor_in y.actors b
      all_same = by_actor (λ b. actor_in actors' b ≡ actor_in y.actors b) a (of_pass_same y.actors a x idle_actor low in_actors ∙ same) (λ b other. of_pass_other y.actors a b x idle_actor other)

      kept_sound : IsEmptyHanded (actor_in y.actors a) P → Sound n calls (left_yard y.uses actors') (ending callers a) disk (m ∷ M) P notes'
      kept_sound idle = left_sound y.uses actors' (length-set_of_pass y.actors a x) (λ b other. all_same b) (λ b t slot. ap (λ (q : Actor). q.slot) (sym (all_same b)) ∙ slot)
          (subst (λ (q : Actor). IsEmptyHanded q P) (sym (all_same a)) idle)
          (slots_turn y.shape y.vault.cells y.vault.dead y.vault.dead y.uses y.actors actors' P (λ b. keeps_itself y.vault.dead y.vault.dead (actor_in y.actors b) (actor_in actors' b) (λ e. e) (all_same b)) (λ e. e) sound.slots)
          (held_locks y.shape y.locks y.actors actors' P a (λ b other. all_same b) sound.locks
          (λ place lock. subst (λ (q : Actor). HasLock q place) (all_same a) lock)
          (subst (λ (q : Actor). RestsOn y.shape.buckets q.hold q P) (sym (all_same a)) (sound.locks.rests a)))
          (reuse_turn y.shape words'.pins y.uses y.actors actors' P notes.begun (λ b. ap (λ (q : Actor). q.slot) (all_same b)) leaves.reuse)

    -- it gives its slot back
    given_sound : (s : ℕ) → (actor_in y.actors a).slot ≡ Some s → is_unused (stage_in y.vault.cells s) ≡ true → ((actor_in y.actors a).hold ≡ Nothing) ⊎ (halt_word P ≡ 1)
        → Sound n calls (left_yard (give_back y.uses s) (set_of_pass y.actors a (with_slot (actor_in y.actors a) None))) (ending callers a) disk (m ∷ M) P notes'
    given_sound s has unused calm =
        let actors' : List Actor = set_of_pass y.actors a (with_slot (actor_in y.actors a) None) in
        left_sound (give_back y.uses s) actors' (length-set_of_pass y.actors a _)
        (hand_b y.shape y.vault.cells y.vault.dead y.uses y.actors P sound.slots a s low in_actors has unused)
        (λ b t slot. (held_then y.shape y.vault.cells y.vault.dead y.uses y.actors P sound.slots a s low in_actors has unused b t slot).1)
        (⊎_elim (λ nothing. inl (given_hold y.shape y.vault.cells y.vault.dead y.uses y.actors P sound.slots a s low in_actors has unused ∙ nothing, given_none y.shape y.vault.cells y.vault.dead y.uses y.actors P sound.slots a s low in_actors has unused)) (λ halted. inr halted) calm)
        (given_slots y.shape y.vault.cells y.vault.dead y.uses y.actors P sound.slots a s low in_actors has unused)
        (given_locks y.shape y.vault.cells y.vault.dead y.uses y.actors P sound.slots a s low in_actors has unused y.locks sound.locks)
        (given_reuse y.shape y.vault.cells y.vault.dead y.uses y.actors P sound.slots a s low in_actors has unused words'.pins notes.begun leaves.reuse)

    -- the slot of an actor that holds nothing wasn't used
    calm_unused : (s : ℕ) → (actor_in y.actors a).slot ≡ Some s → (actor_in y.actors a).hold ≡ Nothing → is_unused (stage_in y.vault.cells s) ≡ true
    calm_unused s has nothing = ⊎_elim
        (λ shut. closed_unused (stage_in y.vault.cells s) shut)
        (λ opened. absurd (false≢true (sym (ap (opens y.vault.dead) nothing) ∙ opened.0)))
        (sound.slots.hand a s has).stage

    -- the yard after the answer
    abbrev answered_with : Option ℕ → Yard
    answered_with slot = left_yard (given_back y slot) (set_of_pass y.actors a (with_slot (actor_at y a) (kept_slot y slot)))

    answered_sound : (slot : Option ℕ) → (actor_in y.actors a).slot ≡ slot → ((actor_in y.actors a).hold ≡ Nothing) ⊎ (halt_word P ≡ 1) → Sound n calls (answered_with slot) (ending callers a) disk (m ∷ M) P notes'
    answered_sound None none calm = kept_sound (with_slot (actor_at y a) None) (ap (with_slot (actor_at y a)) (sym none)) (⊎_elim (λ nothing. inl (nothing, none)) (λ halted. inr halted) calm)
    answered_sound (Some s) has calm = elim (cases_Bool (is_unused (stage_in y.vault.cells s))) [
      | inl unused ↦ rw unused (given_sound s has unused calm)
      | inr used ↦ rw used (kept_sound (with_slot (actor_at y a) (Some s)) (ap (with_slot (actor_at y a)) (sym has)) (⊎_elim (λ nothing. absurd (false≢true (sym used ∙ calm_unused s has nothing))) (λ halted. inr halted) calm))
    ]

    pub played_sound : ((actor_in y.actors a).hold ≡ Nothing) ⊎ (halt_word P ≡ 1) → Sound n calls (answered_with (actor_in y.actors a).slot) (ending callers a) disk (m ∷ M) P notes'
    played_sound calm = answered_sound (actor_in y.actors a).slot refl calm

-- what the call relies on, inside
rests_of : (c : Command) (says : Reply) (a : ℕ) (y : Yard) (P0 P : Trace) (changed : Option ℕ) → is_before_pin (Answering says) ≡ false → Relies
    (view_of y.shape y.vault y.actors a) c (Answering says) P0 P changed → MayAnswer c says P0 P changed × (((actor_in y.actors a).hold ≡ Nothing) ⊎ (halt_word P ≡ 1))
rests_of c says a y P0 P changed inside h = grind (arith, nat_tests, false≢true)

-- and outside, where it was refused
out_rests : (c : Command) (says : Reply) (a : ℕ) (y : Yard) (P0 P : Trace) (changed : Option ℕ) → is_before_pin (Answering says) ≡ true → Relies (view_of y.shape y.vault y.actors a) c (Answering says) P0 P changed → IsEmptyHanded (actor_in y.actors a) P × MayAnswer c says P0 P changed
out_rests c says a y P0 P changed outside h = grind arith

-- a call's side tells whether it was refused outside
out_of : (b : Bool) → side_of b ≡ 0 → b ≡ true
out_of b side = grind (arith, nat_tests)

in_of : (b : Bool) → side_of b ≡ 1 → b ≡ false
in_of b side = grind (arith, nat_tests)

module _ (n calls : ℕ) (y : Yard) (callers : List (Option Caller)) (disk : Medium) (M : History) (P : Trace) (start : Keys) (notes : Notes) (a i : ℕ) (c : Command) (says : Reply) (is : caller_at callers a ≡ Some (call_at i c (Answering says)))
    (up : UpSound n calls (record { yard = y; callers = callers }) disk (record { start = start; history = M }) P notes) where
  abbrev Answered : Yard → Type 0
  Answered new =
      (noted : Notes) × UpSound n calls (played (record { yard = y; callers = callers }) a (call_at i c (Answering says)) (new, Done)) disk
      (record { start = start; history = mark_of i says ∷ M }) P noted × IsNoted y.words.pins new.words.pins P notes.begun noted.begun
      × IsTold new.words.pins P notes.changed P noted.changed

  -- the yard after it, by whether the pass stays out
  abbrev new_yard : Bool → Yard
  new_yard out = record {
    shape = y.shape;
    words = if out then y.words else pinned y.words a;
    locks = y.locks;
    vault = y.vault;
    uses = see_pin a (if out then pin_of y a else pin_of y a + 1) (given_back y (actor_at y a).slot);
    actors = set_of_pass y.actors a (with_slot (actor_at y a) (kept_slot y (actor_at y a).slot));
  }

  range : (1 ≤ a) × (a ≤ y.shape.passes)
  range = let r = caller_range callers a (call_at i c (Answering says)) is in (r.0, omega (arith, r.1, up.sound.callers.count))

  me : CallerSound (view_of y.shape y.vault y.actors a) (pin_in y.words.pins a) (Some (call_at i c (Answering says))) (notes.begun a) P (notes.changed a)
  me = own n calls y callers disk M P notes a i c (Answering says) is up.sound

  -- it was refused outside
  refused_up : (pin_in y.words.pins a % 2 ≡ 0) → Answered (new_yard true)
  refused_up even =
      let outside = out_of (is_before_pin (Answering says)) (sym (side_even (pin_in y.words.pins a) (Answering says) me.stands.0) ∙ even) in
      let relies = out_rests c says a y (notes.begun a) P (notes.changed a) outside me.stands.2 in
      let how = ends n calls y.shape.passes callers P M notes a i range.1 up.sound.ledger y.words.pins up.after c says is (inl outside) relies.1 in (
        ends_now notes a how.last,
        record {
          began = up.began;
          sound = played_sound n calls y callers disk M P notes up.sound up.after a i c says is range.1 how y.words (pin_of y a) (stays_outside n calls y callers disk M P notes up.sound up.after a i c says is range.1 how even)
              (⊎_elim (λ nothing. inl nothing.0) (λ halted. inr halted) relies.0);
          since = up.since;
          after = ended_after n calls y callers disk M P notes up.sound up.after a i c says is range.1 how y.words.pins (λ b other. refl);
        },
        noted_same y.words.pins y.words.pins P notes.begun refl,
        told_ended y.words.pins a P notes how.last even,
      )

  -- its pass goes out
  played_up : (pin_in y.words.pins a % 2 ≡ 1) → pin_in y.words.pins a ≢ last_pin → Answered (new_yard false)
  played_up inside fresh =
      let relies = rests_of c says a y (notes.begun a) P (notes.changed a) (in_of (is_before_pin (Answering says)) (sym (side_even (pin_in y.words.pins a) (Answering says) me.stands.0) ∙ inside)) me.stands.2 in
      let how = ends n calls y.shape.passes callers P M notes a i range.1 up.sound.ledger y.words.pins up.after c says is (inr (inside, up.since a inside)) relies.0 in
      let out = goes_out n calls y callers disk M P notes up.sound up.after a i c says is range.1 how inside fresh in (
        ends_now notes a how.last,
        record {
          began = up.began;
          sound = played_sound n calls y callers disk M P notes up.sound up.after a i c says is range.1 how (pinned y.words a) (pin_of y a + 1) out relies.1;
          since = since_out n y.words.pins notes.begun a _ (inl inside) range.0 (omega (arith, range.1, up.sound.trace.pins)) up.since;
          after = ended_after n calls y callers disk M P notes up.sound up.after a i c says is range.1 how (pinned y.words a).pins out.others;
        },
        noted_out y.words.pins a P notes.begun inside range.0 (omega (arith, range.1, up.sound.trace.pins)),
        told_out y.words.pins a P notes how.last inside range.0 (omega (arith, range.1, up.sound.trace.pins)),
      )

  abbrev out : Bool
  out = stays_out (actor_at y a) (pin_of y a)

  lacks_both : is_outside (pin_of y a) ≡ true → out ≡ false → needs y a Answer ≡ false
  lacks_both outside may_not = ap (λ (b : Bool). not b || out) outside ∙ may_not

  -- the yard after it, where it has what it needs
  done : needs y a Answer ≡ true → Answered (yard_done y (actor_at y a) a Answer)
  done may = elim (cases_Bool out) [
    | inl refused ↦ subst (λ (b : Bool). Answered (new_yard b)) (sym refused) (refused_up (out_even (actor_at y a) (pin_of y a) refused))
    | inr may_not ↦ elim (cases_Bool (is_outside (pin_of y a))) [
      | inl outside ↦ absurd (false≢true (sym (lacks_both outside may_not) ∙ may))
      | inr inside ↦ subst (λ (b : Bool). Answered (new_yard b)) (sym may_not) (played_up (odd inside) (λ last. omega (arith, odd inside, last)))
    ]
  ]
    where
      odd : is_outside (pin_of y a) ≡ false → pin_in y.words.pins a % 2 ≡ 1
      odd is = grind (arith, nat_tests, is)

  abbrev AnsweredOn : Course → Type 0
  AnsweredOn taken =
      (noted : Notes) × UpSound n calls (played (record { yard = y; callers = callers }) a (call_at i c (Answering says)) (line_on taken y (actor_at y a) a Answer)) (medium_after (call_on taken y (actor_at y a) Answer) disk)
      (record { start = start; history = mark_of i says ∷ M }) P noted × IsNoted y.words.pins (line_on taken y (actor_at y a) a Answer).0.words.pins P notes.begun noted.begun
      × IsTold (line_on taken y (actor_at y a) a Answer).0.words.pins P notes.changed P noted.changed

  -- an answer keeps the invariant of an open service
  pub answer_up : (line y a Answer).1 ≢ NotNow → AnsweredOn (course y a Answer)
  answer_up now = ⊎_elim
      (λ plays. subst AnsweredOn (sym plays.1) (done plays.0))
      (λ not_yet. absurd (now (ap (λ (taken : Course). (line_on taken y (actor_at y a) a Answer).1) not_yet)))
      (answer_plays y a)

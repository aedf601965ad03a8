-- A pass that goes in keeps the invariant: a pin, and the first half of a look. So does one that only looked and goes out.
use Rattle.std.proofs.{lemmas.Bool.Decides.{nat_tests}, Common.{◌≡◌, ◌≢◌, ℕ, suc, ◌≤◌, ◌+◌, ◌%◌, ◌==◌, if◌then◌else◌, Bool, true, List, [], ◌∷◌, length}}
use Rattle.std.proofs.Common.{Option, Some, None, refl, sym, ◌∙◌, subst, arith}
use Rattle.lz_slot.specs.{declared.command.Command.{Command}, Counted.{of_pass, set_of_pass}, Histories.{History}}
use Rattle.lz_slot.proofs.Counted.{of_pass_same, of_pass_other, length-set_of_pass}
use Rattle.lz_disk.specs.Images.{Medium}
use Rattle.lz_vault.specs.Stages.{Cell}
use Rattle.lz_allot.specs.{declared.sight.Sight.{Sight, TheVariants.{Left}}, Uses.{Use, Free, Limbo, use_of}}
use Rattle.lz_list.specs.{declared.{publishing.Publishing.{Publishing}, word.Word.TheVariants.{Pin as pin_at}}, Words.{Words, get, set}}
use Rattle.lz_list.{specs.{Traces.{Trace, IsLoose, on, chain}, Pinned.{Stood, IsKept, IsQuiet}}, proofs.Traces.Absence.{begins_itself}}
use Rattle.lz_list.proofs.Traces.Hindsight.{once_begins}
use Rattle.lz_machine.specs.declared.event.{Event.TheVariants.{Pin}, Outcome.TheVariants.{Done, Worn}, Reply.TheVariants.{Worn as SaysWorn}}
use Rattle.lz_machine.specs.declared.{actor.Actor.{Actor}, caller.{Sequence.TheVariants.{Pinning}, Progress.TheVariants.{Playing, LoadsHalt, Answering}}}
use Rattle.lz_machine.specs.{Yards.{Yard, Shape, actor_at, IsInside, actor_in, pin_in}, Table.{last_pin, yard_done}, Calls.{progress_after}}
use Rattle.lz_machine.specs.{Runs.{Caller, caller_at, with_words}, Limbo.{IsAway, IsRightSight}, Notes.{Notes}}
use Rattle.lz_machine.specs.{CallersSound.{view_of, CallerSound, CallersSound}, SlotsSound.{SlotsSound}, LedgerSound.{LedgerSound}}
use Rattle.lz_machine.{specs.Sound.{ReuseSound, TraceSound, Sound}, proofs.Frames.{ActorTable.{by_actor}, Limbo.{away_new, seen_pin, seen_leave, shorter}}}
use Rattle.lz_machine.proofs.Frames.{OneActor.{moving, moved_same, moved_other, carry, ledger_turn}, SameYard.{going_keeps, tails_turn}}
use Rattle.lz_machine.proofs.{Frames.ChainSlots.{limbo_loose, free_loose}, Steps.Hop.{call_at, own}}
use mathlib.Core.Bool.{false≢true}

-- at its pin nothing that stood since was prepared again
pub quiet_new : (buckets : ℕ) (P0 Q : Trace) → length Q ≤ length P0 → IsQuiet buckets P0 Q
quiet_new buckets P0 [] le = tt
quiet_new buckets P0 (e ∷ Q) le = (kept e, quiet_new buckets P0 Q (omega (arith, le)))
  where
    none : (b t : ℕ) → Stood buckets b P0 Q (suc t) → ⊥
    none b t stood = omega (arith, le, shorter P0 Q (once_begins P0 Q (λ R. on 0 (chain buckets b R) (suc t) ≡ true) stood))

    kept : (f : Publishing) → IsKept buckets P0 f Q
    kept f = grind (arith, nat_tests, none)

-- notes in which a pass has gone in now
abbrev pub begins_now : Notes → ℕ → Trace → Notes
begins_now notes a P = record { begun = λ b. if b == a then P else notes.begun b; changed = notes.changed; ended = notes.ended }

pub begun_same : (notes : Notes) (a : ℕ) (P : Trace) → (begins_now notes a P).begun a ≡ P
begun_same notes a P = grind arith

pub begun_other : (notes : Notes) (a : ℕ) (P : Trace) (b : ℕ) → b ≢ a → (begins_now notes a P).begun b ≡ notes.begun b
begun_other notes a P b other = grind arith

-- pins in which a pass has moved on
abbrev pub pinned : Words → ℕ → Words
pinned words a = set words (pin_at a) (get words (pin_at a) + 1)

pub trace_pinned : (shape : Shape) (words : Words) (P : Trace) (a : ℕ) → TraceSound shape words P → TraceSound shape (pinned words a) P
trace_pinned shape words P a h = grind (arith, length-set_of_pass)

module _ (shape : Shape) (cells : List Cell) (dead : Bool) (pins : List ℕ) (uses : List Use) (actors : List Actor) (P : Trace) (notes : Notes) (a : ℕ) (low : 1 ≤ a)
    (high : a ≤ length pins) (slots : SlotsSound shape cells dead uses actors P) (reuse : ReuseSound shape pins uses actors P notes.begun) where
  abbrev v : ℕ
  v = pin_in pins a

  abbrev pins' : List ℕ
  pins' = set_of_pass pins a (v + 1)

  pin_same : pin_in pins' a ≡ v + 1
  pin_same = of_pass_same pins a (v + 1) 0 low high

  pin_other : (b : ℕ) → b ≢ a → pin_in pins' b ≡ pin_in pins b
  pin_other b other = of_pass_other pins a b (v + 1) 0 other

  next_is : suc v ≡ v + 1
  next_is = omega arith

  -- the pass has gone in or out
  passed_reuse : (begun : ℕ → Trace) → ((b : ℕ) → b ≢ a → begun b ≡ notes.begun b) → v ≢ last_pin
      → ((s : ℕ) (seen : List Sight) → use_of uses s ≡ Limbo seen → IsRightSight shape.buckets (v + 1) (begun a) P s (of_pass seen a Left)) → ((s : ℕ) → IsLoose shape.buckets s P → IsInside (v + 1) → IsAway shape.buckets (begun a) P s)
      → ReuseSound shape pins' uses actors P begun
  passed_reuse begun same fresh seen_a away_a = record {
    worn = by_actor (λ b. pin_in pins' b ≤ last_pin) a (omega (arith, pin_same, reuse.worn a, fresh)) (λ b other. omega (arith, pin_other b other, reuse.worn b));
    sights = reuse.sights;
    seen = by_actor (λ b. (s : ℕ) (seen : List Sight) → use_of uses s ≡ Limbo seen → IsRightSight shape.buckets (pin_in pins' b) (begun b) P s (of_pass seen b Left)) a
        (λ s seen limbo. subst (λ (q : ℕ). IsRightSight shape.buckets q (begun a) P s (of_pass seen a Left)) (sym pin_same) (seen_a s seen limbo))
        (λ b other s seen limbo.
        subst (λ (q : ℕ). IsRightSight shape.buckets q (begun b) P s (of_pass seen b Left)) (sym (pin_other b other))
        (subst (λ (q : Trace). IsRightSight shape.buckets (pin_in pins b) q P s (of_pass seen b Left)) (sym (same b other)) (reuse.seen b s seen limbo)));
    free = by_actor (λ b. (s : ℕ) → use_of uses s ≡ Free → IsInside (pin_in pins' b) → IsAway shape.buckets (begun b) P s) a
        (λ s free inside. away_a s (free_loose shape cells dead uses actors P s slots free) (subst IsInside pin_same inside))
        (λ b other s free inside. subst (λ (q : Trace). IsAway shape.buckets q P s) (sym (same b other)) (reuse.free b s free (subst IsInside (pin_other b other) inside)));
    reserved = by_actor (λ b. (d s : ℕ) → (actor_in actors d).slot ≡ Some s → IsInside (pin_in pins' b) → IsAway shape.buckets (begun b) P s) a
        (λ d s slot inside. away_a s (slots.hand d s slot).loose (subst IsInside pin_same inside))
        (λ b other d s slot inside. subst (λ (q : Trace). IsAway shape.buckets q P s) (sym (same b other)) (reuse.reserved b d s slot (subst IsInside (pin_other b other) inside)));
  }

  pub entered_reuse : v % 2 ≡ 0 → v ≢ last_pin → ReuseSound shape pins' uses actors P (begins_now notes a P).begun
  entered_reuse even fresh = passed_reuse (begins_now notes a P).begun (begun_other notes a P) fresh
      (λ s seen limbo.
      subst (λ (q : Trace). IsRightSight shape.buckets (v + 1) q P s (of_pass seen a Left)) (sym (begun_same notes a P))
      (subst (λ (q : ℕ). IsRightSight shape.buckets q P P s (of_pass seen a Left)) next_is
      (seen_pin shape.buckets s v (notes.begun a) P (of_pass seen a Left) (limbo_loose shape cells dead uses actors P s slots seen limbo) (reuse.seen a s seen limbo))))
      (λ s loose inside. subst (λ (q : Trace). IsAway shape.buckets q P s) (sym (begun_same notes a P)) (away_new shape.buckets s P loose))

  pub left_reuse : v % 2 ≡ 1 → v ≢ last_pin → ReuseSound shape pins' uses actors P notes.begun
  left_reuse odd fresh = grind (arith, passed_reuse, next_is, seen_leave)

-- the ledger doesn't depend on where passes have gone in
pub ledger_noted : (n calls passes : ℕ) (callers : List (Option Caller)) (P : Trace) (M : History) (notes : Notes) (begun : ℕ → Trace) → LedgerSound n calls passes callers P M notes → LedgerSound n calls passes callers P M (record { begun = begun; changed = notes.changed; ended = notes.ended })
ledger_noted n calls passes callers P M notes begun h = grind arith

module _ (n calls : ℕ) (y : Yard) (callers : List (Option Caller)) (disk : Medium) (M : History) (P : Trace) (notes : Notes) (sound : Sound n calls y callers disk M P notes) (a : ℕ) (low : 1 ≤ a) (high : a ≤ y.shape.passes) (fresh : pin_in y.words.pins a ≢ last_pin) where
  in_pins : a ≤ length y.words.pins
  in_pins = omega (arith, high, sound.trace.pins)

  abbrev to : ℕ
  to = pin_in y.words.pins a + 1

  -- the callers, where the pass has gone in or out
  passed_callers : (callers' : List (Option Caller)) (notes' : Notes) (P0 : Trace) → length callers' ≡ length callers → ((b : ℕ) → b ≢ a → caller_at callers' b ≡ caller_at callers b)
      → notes'.begun a ≡ P0 → ((b : ℕ) → b ≢ a → notes'.begun b ≡ notes.begun b) → ((b : ℕ) → notes'.changed b ≡ notes.changed b)
      → CallerSound (view_of y.shape y.vault y.actors a) to (caller_at callers' a) P0 P (notes.changed a)
      → CallersSound y.shape y.vault (set_of_pass y.words.pins a to) y.actors callers' P notes'
  passed_callers callers' notes' P0 count others begun_a begun_b changed mine = record {
    count = count ∙ sound.callers.count;
    hands = sound.callers.hands;
    each = by_actor (λ b. CallerSound (view_of y.shape y.vault y.actors b) (pin_in (set_of_pass y.words.pins a to) b) (caller_at callers' b) (notes'.begun b) P (notes'.changed b)) a
        (carry y.shape.buckets y.shape.passes y.vault.format y.vault.cells y.vault.dead P (actor_in y.actors a) (actor_in y.actors a) to (pin_in (set_of_pass y.words.pins a to) a) (caller_at callers' a) (caller_at callers' a) P0 (notes'.begun a) (notes.changed a) (notes'.changed a)
        refl (of_pass_same y.words.pins a to 0 low in_pins) refl begun_a (changed a) mine)
        (λ b other. carry y.shape.buckets y.shape.passes y.vault.format y.vault.cells y.vault.dead P (actor_in y.actors b) (actor_in y.actors b) (pin_in y.words.pins b)
        (pin_in (set_of_pass y.words.pins a to) b) (caller_at callers b) (caller_at callers' b) (notes.begun b) (notes'.begun b) (notes.changed b) (notes'.changed b)
        refl (of_pass_other y.words.pins a b to 0 other) (others b other) (begun_b b other) (changed b) (sound.callers.each b));
  }

  -- an actor without a call looks: it goes in, or goes out
  pub look_in_keeps : pin_in y.words.pins a % 2 ≡ 0 → caller_at callers a ≡ None → Sound n calls (with_words y (pinned y.words a)) callers disk M P (begins_now notes a P)
  look_in_keeps even none = record {
    trace = trace_pinned y.shape y.words P a sound.trace;
    images = sound.images;
    slots = sound.slots;
    locks = sound.locks;
    callers = passed_callers callers (begins_now notes a P) P refl (λ b other. refl) (begun_same notes a P) (begun_other notes a P) (λ b. refl) (subst (λ (q : Option Caller). CallerSound (view_of y.shape y.vault y.actors a) to q P P (notes.changed a)) (sym none) (record {
      quiet = λ inside. quiet_new y.shape.buckets P P (omega arith);
      begins = λ inside. begins_itself P;
      stands = (subst (λ (q : Option Caller). CallerSound (view_of y.shape y.vault y.actors a) (pin_in y.words.pins a) q (notes.begun a) P (notes.changed a)) none (sound.callers.each a)).stands;
    }));
    reuse = entered_reuse y.shape y.vault.cells y.vault.dead y.words.pins y.uses y.actors P notes a low in_pins sound.slots sound.reuse even fresh;
    ledger = ledger_noted n calls y.shape.passes callers P M notes (begins_now notes a P).begun sound.ledger;
    tails = sound.tails;
  }

  pub look_out_keeps : pin_in y.words.pins a % 2 ≡ 1 → caller_at callers a ≡ None → Sound n calls (with_words y (pinned y.words a)) callers disk M P notes
  look_out_keeps odd none = record {
    trace = trace_pinned y.shape y.words P a sound.trace;
    images = sound.images;
    slots = sound.slots;
    locks = sound.locks;
    callers = passed_callers callers notes (notes.begun a) refl (λ b other. refl) refl (λ b other. refl) (λ b. refl) (subst (λ (q : Option Caller). CallerSound (view_of y.shape y.vault y.actors a) to q (notes.begun a) P (notes.changed a)) (sym none) (record {
      quiet = λ inside. absurd (omega (arith, inside, odd));
      begins = λ inside. absurd (omega (arith, inside, odd));
      stands = (subst (λ (q : Option Caller). CallerSound (view_of y.shape y.vault y.actors a) (pin_in y.words.pins a) q (notes.begun a) P (notes.changed a)) none (sound.callers.each a)).stands;
    }));
    reuse = left_reuse y.shape y.vault.cells y.vault.dead y.words.pins y.uses y.actors P notes a low in_pins sound.slots sound.reuse odd fresh;
    ledger = sound.ledger;
    tails = sound.tails;
  }

  -- a call pins
  pub pin_keeps : (i : ℕ) (c : Command) → caller_at callers a ≡ Some (call_at i c (Playing Pinning 0))
      → Sound n calls (yard_done y (actor_at y a) a Pin) (moving callers a (call_at i c (Playing Pinning 0)) (progress_after y.shape c (Playing Pinning 0) Done)) disk M P (begins_now notes a P)
  pin_keeps i c is =
      let at = Playing Pinning 0 in
      let me = own n calls y callers disk M P notes a i c (Playing Pinning 0) is sound in
      record {
        trace = trace_pinned y.shape y.words P a sound.trace;
        images = sound.images;
        slots = sound.slots;
        locks = sound.locks;
        callers = passed_callers (moving callers a (call_at i c (Playing Pinning 0)) LoadsHalt) (begins_now notes a P) P (length-set_of_pass callers a _) (moved_other callers a (call_at i c (Playing Pinning 0)) is LoadsHalt) (begun_same notes a P) (begun_other notes a P) (λ b. refl)
            (subst (λ (q : Option Caller). CallerSound (view_of y.shape y.vault y.actors a) to q P P (notes.changed a)) (sym (moved_same callers a (call_at i c (Playing Pinning 0)) is LoadsHalt)) (record {
              quiet = λ inside. quiet_new y.shape.buckets P P (omega arith);
              begins = λ inside. begins_itself P;
              stands = (omega (arith, me.stands.0), λ inside. me.stands.2.2, (me.stands.2.0, me.stands.2.1));
            }));
        reuse = entered_reuse y.shape y.vault.cells y.vault.dead y.words.pins y.uses y.actors P notes a low in_pins sound.slots sound.reuse me.stands.0 fresh;
        ledger = ledger_noted n calls y.shape.passes (moving callers a (call_at i c (Playing Pinning 0)) LoadsHalt) P M notes (begins_now notes a P).begun (ledger_turn callers a (call_at i c (Playing Pinning 0)) is LoadsHalt n calls y.shape.passes P M notes sound.ledger);
        tails = tails_turn callers a (call_at i c (Playing Pinning 0)) is LoadsHalt y.shape.passes notes high (λ none is. absurd (false≢true is)) y.shape y.vault.cells y.actors y.actors P M (λ b. refl) sound.tails;
      }

-- a pass that is worn isn't pinned, and its call is about to be refused
pub worn_keeps : (n calls : ℕ) (y : Yard) (callers : List (Option Caller)) (disk : Medium) (M : History) (P : Trace) (notes : Notes) (a i : ℕ) (c : Command) (is : caller_at callers a ≡ Some (call_at i c (Playing Pinning 0))) → pin_in y.words.pins a ≡ last_pin → Sound n calls y callers disk M P notes
    → Sound n calls y (moving callers a (call_at i c (Playing Pinning 0)) (progress_after y.shape c (Playing Pinning 0) Worn)) disk M P notes
worn_keeps n calls y callers disk M P notes a i c is last sound =
    let me = own n calls y callers disk M P notes a i c (Playing Pinning 0) is sound in
    going_keeps n calls y callers disk M P notes a (call_at i c (Playing Pinning 0)) is (Answering SaysWorn) (λ none is. absurd (false≢true is)) (record { quiet = me.quiet; begins = me.begins; stands = (last, me.stands.1, me.stands.2) }) sound

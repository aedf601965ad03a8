-- Where one actor is alone, each turn keeps what makes full right.
use Rattle.std.proofs.Common.{◌≡◌, ◌≢◌, ⊎_elim, inl, inr, ℕ, zero, suc, ◌+◌, ◌≤◌, ◌&&◌, not, nat_lt, Bool, true, false, List, ◌++◌, map, unwrap_or, Option}
use Rattle.std.proofs.{Common.{Some, None, refl, sym, ap, ◌∙◌, subst, arith}, lemmas.Bool.{cases_eq, cases_Bool, Decides.{nat_tests}}}
use Rattle.std.specs.Prelude.{if◌then◌else◌}
use mathlib.Core.Bool.{false≢true}
use Rattle.lz_slot.specs.{declared.command.Command.{Command, TheVariants.{Add, Remove}}, Sets.{key_of}, Histories.{History}}
use Rattle.lz_disk.specs.Images.{Medium}
use Rattle.lz_vault.specs.{declared.vault.Stage.TheVariants.{Opening}, Stages.{Cell, cell_synced, is_covered}}
use Rattle.lz_allot.specs.{declared.sight.Sight.{Sight}, Uses.{collect, see_pin, lowest_free}}
use Rattle.lz_list.specs.{declared.{word.Word.TheVariants.{Halt as halt_at}, walk.Look.{Look}, place.Place.{Place}}, Words.{get}, Walks.{wants, hopped}}
use Rattle.lz_list.specs.Traces.{Trace}
use Rattle.lz_machine.specs.declared.{course.Course.{Course, TheVariants.{Refused, Dies, Plays}}, actor.{Actor.{Actor}, LockPhase.TheVariants.{Nothing}}}
use Rattle.lz_machine.specs.declared.event.Event.{Event, TheVariants.{Hop, Reserve, Claim, Check, WriteOpen, Link, WriteClose, Mark, Release, Sync, Settle}}
use Rattle.lz_machine.specs.declared.event.{Event.TheVariants.{Unlink, Retire, SeePin, Answer}, Outcome.{Outcome, TheVariants.{Done, Early, NotNow, Dead}}}
use Rattle.lz_machine.specs.declared.{event.Reply.{Reply, TheVariants.{Yes, Halted, Device}}, caller.Sequence.{Sequence}}
use Rattle.lz_machine.specs.declared.caller.{Sequence.TheVariants.{Pinning, Resting, Writing, Adding, Removing, Releasing, Halting}, Progress.{Progress}}
use Rattle.lz_machine.specs.declared.caller.Progress.TheVariants.{Playing, LoadsHalt, Walking, Reserving, SeeingPins, Claiming, Checking, Answering}
use Rattle.lz_machine.specs.{Yards.{Shape, Yard, actor_at, cell_at, actor_in, stage_in, pin_in}, Table.{line_publishes, line_failed, course, course_alive}}
use Rattle.lz_machine.specs.Table.{line, line_on, published_on, pin_of, slot_found, given_back, is_sure, is_spent, slot_of, pin_answered}
use Rattle.lz_machine.specs.{Calls.{halts, progress_after, event_of, loaded}, Runs.{Caller, caller_at, reply_at, next_event, moved_on}}
use Rattle.lz_machine.{specs.{CallersSound.{IsAdder, view_of, Relies}, Notes.{Notes}, Sound.{Sound}, Limbo.{IsRightSight}}, proofs.Frames.ActorTable.{by_actor}}
use Rattle.lz_machine.proofs.{Frames.{Uses.{free_limbo}, Outside.{answered_even}, Ranges.{few_slots}}, Steps.Hop.{call_at, own}}
use Rattle.lz_machine.proofs.Alone.Sights.{HasLeft, IsSeenOdd, set_cases, left_set, left_seen, seen_outside}
use Rattle.lz_machine.proofs.Alone.Frame.{idle_on, none_on, left_on, is_use_event, course_is, cell_cases, synced_none, is_opening_event}
use Rattle.lz_machine.proofs.Alone.{Walk.{Finds, walk_finds}, Full.{LeftBelow, WalkStands, AddsTo, says_yes, AloneFull, all_other, stands_playing, stands_halt}}
use Rattle.lz_machine.proofs.Alone.Full.{stands_claim, stands_check, AsksToAdd, stands_hops}
use Rattle.lz_machine.proofs.{Alone.CalmEvent.{IsCalm, calm_adds, calm_sequence, is_calm_sequence, sequence_goes}, Runs.Course.{course_dead, answer_plays}}

module _ (n calls : ℕ) (y : Yard) (callers : List (Option Caller)) (disk : Medium) (M : History) (P : Trace) (notes : Notes) (sound : Sound n calls y callers disk M P notes) (a i : ℕ) (c : Command) where
  abbrev actor : Actor
  actor = actor_at y a

  -- after an event that took this course
  abbrev After : Progress → Event → Course → Type 0
  After at e k = AloneFull a (line_on k y actor a e).0 (Some (call_at i c (progress_after (line_on k y actor a e).0.shape c at (line_on k y actor a e).1))) (published_on k y actor a e ++ P)

  -- a calm event
  calm : (at : Progress) (e : Event) (k : Course) → AloneFull a y (Some (call_at i c at)) P → IsCalm e → says_yes at ≡ false → ((s : ℕ) → AddsTo at s → ⊥)
      → ((z : Yard) (Q : Trace) (shape : Shape) (outcome : Outcome) → WalkStands z Q (progress_after shape c at outcome) c) → After at e k
  calm at e k h quiet no_yes no_adds stands = record {
    others = λ b other. idle_on k y a b e other (h.others b other);
    left = λ _. left_on k y a a e quiet.1 (h.left no_yes);
    opening = λ lives s opens. absurd (none_on k y a e quiet.0 lives (λ alive t is. no_adds t (h.opening alive t is)) s opens);
    stands = stands (line_on k y actor a e).0 (published_on k y actor a e ++ P) (line_on k y actor a e).0.shape (line_on k y actor a e).1;
  }

  -- a dead vault refuses it
  dead_after : (at : Progress) (e : Event) → AloneFull a y (Some (call_at i c at)) P → says_yes at ≡ false → y.vault.dead ≡ true → After at e (Refused Dead)
  dead_after at e h no_yes dead = grind arith

  by_course : (at : Progress) (e : Event) → AloneFull a y (Some (call_at i c at)) P → says_yes at ≡ false → (line y a e).1 ≢ NotNow → After at e (course_alive y a (pin_of y a) e) → After at e (course y a e)
  by_course at e h no_yes now after = ⊎_elim
      (λ dead. subst (After at e) (sym dead.2) (dead_after at e h no_yes dead.0))
      (λ alive. subst (After at e) (sym alive) after)
      (course_is y a e now)

  module _ (at : Progress) (is : caller_at callers a ≡ Some (call_at i c at)) where
    relies : Relies (view_of y.shape y.vault y.actors a) c at (notes.begun a) P (notes.changed a)
    relies = (own n calls y callers disk M P notes a i c at is sound).stands.2

  -- sequences that change nothing
  playing : (sequence : Sequence) (j : ℕ) → caller_at callers a ≡ Some (call_at i c (Playing sequence j)) → AloneFull a y (Some (call_at i c (Playing sequence j))) P → is_calm_sequence sequence ≡ true
      → After (Playing sequence j) (loaded y.words (event_of c sequence j)) (course y a (loaded y.words (event_of c sequence j)))
  playing sequence j is h calm_one =
      calm (Playing sequence j) (loaded y.words (event_of c sequence j)) (course y a (loaded y.words (event_of c sequence j))) h (calm_sequence y.words c sequence j calm_one) refl (λ s adds. calm_adds sequence j s calm_one adds)
      (λ z Q shape outcome. stands_playing z Q shape c sequence j (sequence_goes z Q (view_of y.shape y.vault y.actors a) c sequence j (notes.begun a) P (notes.changed a) (relies (Playing sequence j) is)) outcome)

  -- the halt word
  loads_halt : AloneFull a y (Some (call_at i c LoadsHalt)) P → After LoadsHalt (Hop halt_at) (course y a (Hop halt_at))
  loads_halt h = calm LoadsHalt (Hop halt_at) (course y a (Hop halt_at)) h (refl, refl) refl (λ s adds. adds) (λ z Q shape outcome. stands_halt z Q shape c outcome)

  claiming : (aim : Option ℕ) (pred : Place) (curr : Option ℕ) → AloneFull a y (Some (call_at i c (Claiming aim pred curr))) P → After (Claiming aim pred curr) (Claim pred curr) (course y a (Claim pred curr))
  claiming aim pred curr h = calm (Claiming aim pred curr) (Claim pred curr) (course y a (Claim pred curr)) h (refl, refl) refl (λ s adds. adds) (λ z Q shape outcome. stands_claim z Q shape c aim pred curr outcome)

  checking : (aim curr : Option ℕ) → AloneFull a y (Some (call_at i c (Checking aim curr))) P → After (Checking aim curr) Check (course y a Check)
  checking aim curr h = calm (Checking aim curr) Check (course y a Check) h (refl, refl) refl (λ s adds. adds) (λ z Q shape outcome. stands_check z Q shape c aim curr outcome)

  -- a walk
  walking : (aim : Option ℕ) (look : Look) → caller_at callers a ≡ Some (call_at i c (Walking aim look)) → AloneFull a y (Some (call_at i c (Walking aim look))) P → (line y a (Hop (wants y.shape.buckets (key_of c) look))).1 ≢ NotNow
      → After (Walking aim look) (Hop (wants y.shape.buckets (key_of c) look)) (course y a (Hop (wants y.shape.buckets (key_of c) look)))
  walking aim look is h now = by_course (Walking aim look) (Hop (wants y.shape.buckets (key_of c) look)) h refl now (record {
    others = h.others;
    left = λ _. h.left refl;
    opening = λ lives s opens. absurd (h.opening lives s opens);
    stands = stands_hops y P y.words sound.trace (few_slots sound.images) c aim (hopped y.shape.buckets (key_of c) look (get y.words (wants y.shape.buckets (key_of c) look))) (finds c aim (relies (Walking aim look) is) h.stands);
  })
    where
      finds : (d : Command) (aim : Option ℕ) → Relies (view_of y.shape y.vault y.actors a) d (Walking aim look) (notes.begun a) P (notes.changed a) → WalkStands y P (Walking aim look) d
          → AsksToAdd d aim (λ k. Finds y.shape y.words P sound.trace (few_slots sound.images) k (hopped y.shape.buckets (key_of d) look (get y.words (wants y.shape.buckets (key_of d) look))))
      finds (Add k) None rely stands = walk_finds y.shape y.words P sound.trace (few_slots sound.images) y.shape.passes y.vault.format y.vault.cells y.vault.dead (actor_in y.actors a) rely.0.hold rely.1 k look stands
      finds _ _ rely stands = tt

  -- an adding's own slot
  adding_open : (k t : ℕ) → c ≡ Add k → caller_at callers a ≡ Some (call_at i c (Playing (Adding t) 0)) → AloneFull a y (Some (call_at i c (Playing (Adding t) 0))) P → (line y a WriteOpen).1 ≢ NotNow
      → After (Playing (Adding t) 0) WriteOpen (course y a WriteOpen)
  adding_open k t add is h now = by_course (Playing (Adding t) 0) WriteOpen h refl now (record {
    others = λ b other. idle_on Plays y a b WriteOpen other (h.others b other);
    left = λ _. h.left refl;
    opening = λ lives s opens. ⊎_elim
        (λ set. sym (set.0 ∙ own_slot))
        (λ same. h.opening lives s (sym (ap (λ (x : Cell). x.stage) same) ∙ opens))
        (cell_cases y.vault.cells (slot_of actor) s (record { stage = Opening; key = (cell_at y (slot_of actor)).key }));
    stands = tt;
  })
    where
      own_slot : slot_of actor ≡ t
      own_slot = ap (λ (q : Option ℕ). unwrap_or q 0) (subst (λ (d : Command). Relies (view_of y.shape y.vault y.actors a) d (Playing (Adding t) 0) (notes.begun a) P (notes.changed a)) add (relies (Playing (Adding t) 0) is)).1.slot

  -- the events that leave all cells
  adding_on : (e : Event) (t j : ℕ) (next : Progress) → AloneFull a y (Some (call_at i c (Playing (Adding t) j))) P → is_opening_event e ≡ false → is_use_event e ≡ false → (k : Course)
      → ((lives : (line_on k y actor a e).0.vault.dead ≡ false) (s : ℕ) → stage_in (line_on k y actor a e).0.vault.cells s ≡ Opening → t ≡ s → AddsTo next s)
      → ((lives : (line_on k y actor a e).0.vault.dead ≡ false) (s : ℕ) → stage_in (line_on k y actor a e).0.vault.cells s ≡ Opening → stage_in y.vault.cells s ≡ Opening)
      → WalkStands (line_on k y actor a e).0 (published_on k y actor a e ++ P) next c
      → AloneFull a (line_on k y actor a e).0 (Some (call_at i c next)) (published_on k y actor a e ++ P)
  adding_on e t j next h no_open no_use k adds old stands = record {
    others = λ b other. idle_on k y a b e other (h.others b other);
    left = λ _. left_on k y a a e no_use (h.left refl);
    opening = λ lives s opens. adds lives s opens (h.opening (lived k lives) s (old lives s opens));
    stands = stands;
  }
    where
      lived : (k : Course) → (line_on k y actor a e).0.vault.dead ≡ false → y.vault.dead ≡ false
      lived Dies lives = absurd (false≢true (sym lives))
      lived _ lives = lives

  adding_link : (t : ℕ) → AloneFull a y (Some (call_at i c (Playing (Adding t) 1))) P → (line y a Link).1 ≢ NotNow → After (Playing (Adding t) 1) Link (course y a Link)
  adding_link t h now = by_course (Playing (Adding t) 1) Link h refl now (adding_on Link t 1 (Playing (Adding t) 2) h refl refl Plays (λ lives s opens same. same) (λ lives s opens. opens) tt)

  adding_release : (t : ℕ) → AloneFull a y (Some (call_at i c (Playing (Adding t) 2))) P → (line y a Release).1 ≢ NotNow → After (Playing (Adding t) 2) Release (course y a Release)
  adding_release t h now = by_course (Playing (Adding t) 2) Release h refl now (adding_on Release t 2 (Playing (Adding t) 3) h refl refl Plays (λ lives s opens same. same) (λ lives s opens. opens) tt)

  adding_sync : (t : ℕ) → AloneFull a y (Some (call_at i c (Playing (Adding t) 3))) P → (line y a (Sync t)).1 ≢ NotNow → After (Playing (Adding t) 3) (Sync t) (course y a (Sync t))
  adding_sync t h now = by_course (Playing (Adding t) 3) (Sync t) h refl now (go (not (is_sure y t) && is_spent y))
    where
      old : (sure : Bool) (s : ℕ) → stage_in (if sure then y.vault.cells else map cell_synced y.vault.cells) s ≡ Opening → stage_in y.vault.cells s ≡ Opening
      old true s opens = opens
      old false s opens = absurd (synced_none y.vault.cells s opens)

      go : (dies : Bool) → After (Playing (Adding t) 3) (Sync t) (if dies then Dies else Plays)
      go true = adding_on (Sync t) t 3 (Playing (Halting Halted) 0) h refl refl Dies (λ lives s opens same. absurd (false≢true (sym lives))) (λ lives s opens. opens) tt
      go false = adding_on (Sync t) t 3 (Playing (Adding t) 4) h refl refl Plays (λ lives s opens same. same) (λ lives s opens. old (is_sure y t) s opens) tt

  adding_settle : (t : ℕ) → AloneFull a y (Some (call_at i c (Playing (Adding t) 4))) P → (line y a (Settle t)).1 ≢ NotNow → After (Playing (Adding t) 4) (Settle t) (course y a (Settle t))
  adding_settle t h now = by_course (Playing (Adding t) 4) (Settle t) h refl now (go (is_sure y t) refl)
    where
      go : (sure : Bool) → is_sure y t ≡ sure → After (Playing (Adding t) 4) (Settle t) Plays
      go true is = subst (λ (b : Bool). AloneFull a (line_on Plays y actor a (Settle t)).0 (Some (call_at i c (progress_after y.shape c (Playing (Adding t) 4) (if b then Done else Early)))) (published_on Plays y actor a (Settle t) ++ P)) (sym is)
          (adding_on (Settle t) t 4 (Answering Yes) h refl refl Plays (λ lives s opens same. false≢true (sym (ap is_covered opens) ∙ ap (λ (q : ℕ). is_covered (stage_in y.vault.cells q)) (sym same) ∙ is)) (λ lives s opens. opens) tt)
      go false is = subst (λ (b : Bool). AloneFull a (line_on Plays y actor a (Settle t)).0 (Some (call_at i c (progress_after y.shape c (Playing (Adding t) 4) (if b then Done else Early)))) (published_on Plays y actor a (Settle t) ++ P)) (sym is)
          (adding_on (Settle t) t 4 (Playing (Adding t) 3) h refl refl Plays (λ lives s opens same. same) (λ lives s opens. opens) tt)

  -- a removing
  removing : (e : Event) (t j : ℕ) → AloneFull a y (Some (call_at i c (Playing (Removing t) j))) P → IsCalm e → After (Playing (Removing t) j) e (course y a e)
  removing e t j h quiet = calm (Playing (Removing t) j) e (course y a e) h quiet refl (λ s adds. adds) (λ z Q shape outcome. stands_playing z Q shape c (Removing t) j tt outcome)

  retiring : (t : ℕ) → AloneFull a y (Some (call_at i c (Playing (Removing t) 6))) P → (line y a Retire).1 ≢ NotNow → After (Playing (Removing t) 6) Retire (course y a Retire)
  retiring t h now = by_course (Playing (Removing t) 6) Retire h refl now (record {
    others = λ b other. idle_on Plays y a b Retire other (h.others b other);
    left = λ no. absurd (false≢true (sym no));
    opening = λ lives s opens. absurd (h.opening lives s opens);
    stands = tt;
  })

  -- asking for a slot
  reserving : (again : Bool) → caller_at callers a ≡ Some (call_at i c (Reserving again)) → AloneFull a y (Some (call_at i c (Reserving again))) P → (line y a Reserve).1 ≢ NotNow → After (Reserving again) Reserve (course y a Reserve)
  reserving again is h now = elim (cases_Bool y.vault.dead) [
    | inl dead ↦ subst (After (Reserving again) Reserve) (sym (course_dead y a Reserve refl dead)) (dead_after (Reserving again) Reserve h refl dead)
    | inr lives ↦ by_course (Reserving again) Reserve h refl now (go lives (lowest_free (collect y.uses)) refl)
  ]
    where
      rely : Relies (view_of y.shape y.vault y.actors a) c (Reserving again) (notes.begun a) P (notes.changed a)
      rely = relies (Reserving again) is

      holds : (b : ℕ) → (actor_in y.actors b).hold ≡ Nothing
      holds = by_actor (λ b. (actor_in y.actors b).hold ≡ Nothing) a rely.0.hold (λ b other. (h.others b other).hold)

      slots : (b : ℕ) → (actor_in y.actors b).slot ≡ None
      slots = by_actor (λ b. (actor_in y.actors b).slot ≡ None) a rely.1 (λ b other. (h.others b other).slot)

      stands : (d : Command) (again : Bool) (found : Option ℕ) → y.vault.dead ≡ false → lowest_free (collect y.uses) ≡ found → IsAdder d → WalkStands y P (Reserving again) d
          → WalkStands (line_on Plays y actor a Reserve).0 P (progress_after y.shape d (Reserving again) (slot_found found (collect y.uses))) d
      stands (Add k) false None lives is adder old = (old, λ b low below. absurd (omega (arith, low, below)))
      stands (Add k) true None lives is adder old =
          all_other n calls y callers disk M P notes sound holds slots old.1 is k old.0 (λ s opens. absurd (h.opening lives s opens))
      stands (Add k) _ (Some s) lives is adder old = tt
      stands _ again found lives is adder old = absurd adder

      go : y.vault.dead ≡ false → (found : Option ℕ) → lowest_free (collect y.uses) ≡ found → After (Reserving again) Reserve Plays
      go lives found is = subst (λ (q : Option ℕ). AloneFull a (line_on Plays y actor a Reserve).0 (Some (call_at i c (progress_after y.shape c (Reserving again) (slot_found q (collect y.uses))))) P) (sym is) (record {
        others = λ b other. idle_on Plays y a b Reserve other (h.others b other);
        left = λ _. left_on Plays y a a Reserve refl (h.left refl);
        opening = λ lives s opens. absurd (h.opening lives s opens);
        stands = stands c again found lives is rely.2 h.stands;
      })

  -- the sights of a pass are right
  seen_odd : (p : ℕ) → IsSeenOdd y.uses p
  seen_odd p s seen u limbo inside = (subst (λ (x : Sight). IsRightSight y.shape.buckets (pin_in y.words.pins p) (notes.begun p) P s x) inside (sound.reuse.seen p s seen limbo)).0

  -- looking at a pin
  seeing : (p : ℕ) → AloneFull a y (Some (call_at i c (SeeingPins p))) P → (line y a (SeePin p (pin_in y.words.pins p))).1 ≢ NotNow → After (SeeingPins p) (SeePin p (pin_in y.words.pins p)) (course y a (SeePin p (pin_in y.words.pins p)))
  seeing p h now = by_course (SeeingPins p) (SeePin p (pin_in y.words.pins p)) h refl now (go (nat_lt p y.shape.passes) refl)
    where
      own_left : HasLeft (see_pin p (pin_in y.words.pins p) y.uses) p
      own_left = elim (cases_eq p a) [
        | inl same ↦ left_seen y.uses p (pin_in y.words.pins p) p (subst (HasLeft y.uses) (sym same) (h.left refl))
        | inr other ↦ seen_outside y.uses p (pin_in y.words.pins p) (h.others p other).outside (seen_odd p)
      ]

      below : (m : ℕ) → LeftBelow y.uses p → m ≤ p + 1 → LeftBelow (see_pin p (pin_in y.words.pins p) y.uses) m
      below m old le b low under = elim (cases_eq b p) [
        | inl same ↦ subst (HasLeft (see_pin p (pin_in y.words.pins p) y.uses)) (sym same) own_left
        | inr other ↦ left_seen y.uses p (pin_in y.words.pins p) b (old b low (omega (arith, under, le, other)))
      ]

      stands : (d : Command) (b : Bool) → nat_lt p y.shape.passes ≡ b → WalkStands y P (SeeingPins p) d → WalkStands (line_on Plays y actor a (SeePin p (pin_in y.words.pins p))).0 P (if b then SeeingPins (p + 1) else Reserving true) d
      stands d b is old = grind (arith, nat_tests, below)

      go : (b : Bool) → nat_lt p y.shape.passes ≡ b → After (SeeingPins p) (SeePin p (pin_in y.words.pins p)) Plays
      go b is = subst (λ (q : Bool). AloneFull a (line_on Plays y actor a (SeePin p (pin_in y.words.pins p))).0 (Some (call_at i c (if q then SeeingPins (p + 1) else Reserving true))) P) (sym is) (record {
        others = λ b other. idle_on Plays y a b (SeePin p (pin_in y.words.pins p)) other (h.others b other);
        left = λ _. left_on Plays y a a (SeePin p (pin_in y.words.pins p)) refl (h.left refl);
        opening = λ lives s opens. absurd (h.opening lives s opens);
        stands = stands c b is h.stands;
      })

  -- an answer
  given_left : (slot : Option ℕ) (b : ℕ) → HasLeft y.uses b → HasLeft (given_back y slot) b
  given_left slot b left = grind (arith, nat_tests, left_set)

  given_odd : (slot : Option ℕ) (p : ℕ) → IsSeenOdd (given_back y slot) p
  given_odd slot p = grind (arith, nat_tests, seen_odd, free_limbo, set_cases)

  answer_left : (k : Course) → HasLeft y.uses a → HasLeft (line_on k y actor a Answer).0.uses a
  answer_left Plays left = left_seen (given_back y actor.slot) a (pin_answered actor (pin_of y a)) a (given_left actor.slot a left)
  answer_left _ left = left

  -- after a yes too: its pass is outside
  yes_left : (line y a Answer).1 ≢ NotNow → HasLeft (line y a Answer).0.uses a
  yes_left now = ⊎_elim
      (λ plays. subst (λ (k : Course). HasLeft (line_on k y actor a Answer).0.uses a) (sym plays.1) (seen_outside (given_back y actor.slot) a (pin_answered actor (pin_of y a)) (answered_even actor (pin_of y a) plays.0) (given_odd actor.slot a)))
      (λ not_yet. absurd (now (ap (λ (k : Course). (line_on k y actor a Answer).1) not_yet)))
      (answer_plays y a)

  answering : (reply : Reply) → caller_at callers a ≡ Some (call_at i c (Answering reply)) → AloneFull a y (Some (call_at i c (Answering reply))) P → (line y a Answer).1 ≢ NotNow
      → AloneFull a (line y a Answer).0 None (line_publishes y a Answer ++ P)
  answering reply is h now = record {
    others = λ b other. idle_on (course y a Answer) y a b Answer other (h.others b other);
    left = λ _. left_now reply is h.left;
    opening = λ lives s opens. none_on (course y a Answer) y a Answer refl lives (λ alive t opened. h.opening alive t opened) s opens;
    stands = tt;
  }
    where
      left_now : (reply : Reply) → caller_at callers a ≡ Some (call_at i c (Answering reply)) → (says_yes (Answering reply) ≡ false → HasLeft y.uses a) → HasLeft (line y a Answer).0.uses a
      left_now Yes is left = yes_left now
      left_now _ is left = answer_left (course y a Answer) (left refl)

  -- where a call has come so far, its turn
  abbrev Turned : Progress → Type 0
  Turned at =
      caller_at callers a ≡ Some (call_at i c at) → AloneFull a y (Some (call_at i c at)) P → (line y a (next_event y (call_at i c at))).1 ≢ NotNow
      → AloneFull a (line y a (next_event y (call_at i c at))).0 (moved_on (reply_at at) (call_at i c at) (progress_after (line y a (next_event y (call_at i c at))).0.shape c at (line y a (next_event y (call_at i c at))).1)) (line_publishes y a (next_event y (call_at i c at)) ++ P)

  no_adding : (t j : ℕ) (d : Command) → Relies (view_of y.shape y.vault y.actors a) d (Playing (Adding t) j) (notes.begun a) P (notes.changed a) → (k : ℕ) × (d ≡ Add k)
  no_adding t j d rely = grind (arith, nat_tests)

  past_adding : (t j : ℕ) (d : Command) → Relies (view_of y.shape y.vault y.actors a) d (Playing (Adding t) (suc (suc (suc (suc (suc j)))))) (notes.begun a) P (notes.changed a) → ⊥
  past_adding t j (Add k) rely = rely
  past_adding t j _ rely = rely

  past_removing : (t j : ℕ) (d : Command) → Relies (view_of y.shape y.vault y.actors a) d (Playing (Removing t) (suc (suc (suc (suc (suc (suc (suc j)))))))) (notes.begun a) P (notes.changed a) → ⊥
  past_removing t j (Remove k) rely = rely.2
  past_removing t j _ rely = rely

  pub turned : (at : Progress) → Turned at
  turned (Playing Pinning j) is h now = playing Pinning j is h refl
  turned (Playing (Resting s reply) j) is h now = playing (Resting s reply) j is h refl
  turned (Playing (Writing s) j) is h now = playing (Writing s) j is h refl
  turned (Playing (Releasing aim) j) is h now = playing (Releasing aim) j is h refl
  turned (Playing (Halting reply) j) is h now = playing (Halting reply) j is h refl
  turned (Playing (Adding t) zero) is h now = let add = no_adding t zero c (relies (Playing (Adding t) zero) is) in adding_open add.0 t add.1 is h now
  turned (Playing (Adding t) (suc zero)) is h now = adding_link t h now
  turned (Playing (Adding t) (suc (suc zero))) is h now = adding_release t h now
  turned (Playing (Adding t) (suc (suc (suc zero)))) is h now = adding_sync t h now
  turned (Playing (Adding t) (suc (suc (suc (suc zero))))) is h now = adding_settle t h now
  turned (Playing (Adding t) (suc (suc (suc (suc (suc j)))))) is h now = absurd (past_adding t j c (relies (Playing (Adding t) (suc (suc (suc (suc (suc j)))))) is))
  turned (Playing (Removing t) zero) is h now = removing WriteClose t 0 h (refl, refl)
  turned (Playing (Removing t) (suc zero)) is h now = removing Mark t 1 h (refl, refl)
  turned (Playing (Removing t) (suc (suc zero))) is h now = removing (Sync t) t 2 h (refl, refl)
  turned (Playing (Removing t) (suc (suc (suc zero)))) is h now = removing (Settle t) t 3 h (refl, refl)
  turned (Playing (Removing t) (suc (suc (suc (suc zero))))) is h now = removing Unlink t 4 h (refl, refl)
  turned (Playing (Removing t) (suc (suc (suc (suc (suc zero)))))) is h now = removing Release t 5 h (refl, refl)
  turned (Playing (Removing t) (suc (suc (suc (suc (suc (suc zero))))))) is h now = retiring t h now
  turned (Playing (Removing t) (suc (suc (suc (suc (suc (suc (suc j)))))))) is h now = absurd (past_removing t j c (relies (Playing (Removing t) (suc (suc (suc (suc (suc (suc (suc j)))))))) is))
  turned LoadsHalt is h now = loads_halt h
  turned (Walking aim look) is h now = walking aim look is h now
  turned (Reserving again) is h now = reserving again is h now
  turned (SeeingPins p) is h now = seeing p h now
  turned (Claiming aim pred curr) is h now = claiming aim pred curr h
  turned (Checking aim curr) is h now = checking aim curr h
  turned (Answering reply) is h now = answering reply is h now

  -- a turn whose device call fails
  pub faulted : (at : Progress) (e : Event) → reply_at at ≡ None → AloneFull a y (Some (call_at i c at)) P → AloneFull a (line_failed y a e).0 (Some (call_at i c (halts Device))) P
  faulted at e goes h = grind arith

-- Each step of an open service keeps the invariant, with notes that go on from those before it.
use Rattle.std.proofs.lemmas.Bool.{cases_eq, Decides.{nat_tests}}
use Rattle.std.proofs.Common.{◌≡◌, ◌≢◌, inl, inr, ℕ, ◌≤◌, ◌%◌, List, [], ◌∷◌, ◌++◌, Option, Some, None, refl, sym, ◌∙◌, subst, arith, suc}
use Rattle.lz_slot.specs.{declared.{command.Command.{Command}, history.HistoryEvent.{HistoryEvent, TheVariants.{Call}}}, Sets.{Keys}}
use Rattle.lz_slot.specs.Histories.{History, Life, lives, with_mark}
use Rattle.lz_disk.specs.Images.{Medium}
use Rattle.lz_vault.specs.Vaults.{medium_after}
use Rattle.lz_list.specs.Traces.{Trace}
use Rattle.lz_machine.specs.declared.{event.{Event.TheVariants.{Answer}, Reply.{Reply}}, caller.Progress.{Progress, TheVariants.{Answering}}}
use Rattle.lz_machine.specs.{Yards.{Yard, actor_at, pin_in}, Table.{last_pin, course, line, line_call, line_publishes, line_failed}, Runs.{Start, Service}}
use Rattle.lz_machine.specs.Runs.{Caller, Up, Turn, Fails, Looks, MayStep, HasTurn, HasFault, after_turn, after_fault, turn_publishes, marks_of_turn}
use Rattle.lz_machine.specs.Runs.{mark_of_turn, mark_of, point_after, caller_at, next_event, reply_at, played, looked, start_keys, State, Down, Transition}
use Rattle.lz_machine.specs.{Runs.{Calls, Trips, Opens, OpenFails, state_after, trace_after, calls_made_after, marks_of, invoked}, Notes.{Notes, entries}}
use Rattle.lz_machine.{specs.{Sound.{UpSound, PointSound, IsSound}, Calls.{begun}}, proofs.Steps.Hop.{call_at}}
use Rattle.lz_machine.proofs.Steps.{Pin.{begins_now, look_in_keeps, look_out_keeps}, Turn.{turn_up}, Fault.{fault_up}, Answer.{answer_up}}
use Rattle.lz_machine.proofs.{Steps.Invoke.{calling, call_up}, Frames.{PinNotes.{IsNoted, noted_in, noted_out, noted_same}, ChangeNotes.{IsTold, told_same}}}
use Rattle.lz_machine.proofs.{Frames.PinOrder.{pin_after, since_pin, since_out, out_after}, Runs.{PointParts.{point}, CallerTable.{none_of}}}
use Rattle.lz_machine.proofs.Runs.Shape.{line_keeps_shape, line_keeps_format}

-- a service after a step is sound, with notes that go on from those before
pub record GoesOn (n calls : ℕ) (life : Life) (pins : List ℕ) (P : Trace) (before : Notes) (service : Service) (disk : Medium) (Q : Trace) : Type 0 where
  pub notes : Notes
  pub up : UpSound n calls service disk life Q notes
  pub noted : IsNoted pins service.yard.words.pins P before.begun notes.begun
  pub told : IsTold service.yard.words.pins P before.changed Q notes.changed

abbrev pub NextAt : ℕ → ℕ → Life → List ℕ → Trace → Notes → State → Trace → Type 0
NextAt n calls life pins P before (Up service disk) Q = GoesOn n calls life pins P before service disk Q
NextAt n calls life pins P before (Down shape disk) Q = Unit {0}

-- the life with the marks of a step
abbrev pub marked : Life → List HistoryEvent → Life
marked life marks = record { start = life.start; history = marks ++ life.history }

-- an answer publishes nothing
pub answer_publishes : (y : Yard) (a : ℕ) → line_publishes y a Answer ≡ []
answer_publishes y a = grind arith

-- a look of an actor without a call: it goes in, or goes out
look_up : (n calls : ℕ) (y : Yard) (callers : List (Option Caller)) (disk : Medium) (life : Life) (P : Trace) (notes : Notes) (a : ℕ) → 1 ≤ a → a ≤ y.shape.passes → caller_at callers a ≡ None → pin_in y.words.pins a ≢ last_pin
    → UpSound n calls (record { yard = y; callers = callers }) disk life P notes → GoesOn n calls life y.words.pins P notes (record { yard = looked y a; callers = callers }) disk P
look_up n calls y callers disk life P notes a low high none fresh up = elim (cases_eq (pin_in y.words.pins a % 2) 0) [
  | inl even ↦ record {
    notes = begins_now notes a P;
    up = record {
      began = up.began;
      sound = look_in_keeps n calls y callers disk life.history P notes up.sound a low high fresh even none;
      after = pin_after n calls y.shape.passes callers P life.history notes up.sound.ledger y.words.pins a _ callers (λ b other. refl) (entries y.shape.passes callers (begins_now notes a P)) refl up.after;
      since = since_pin n y.words.pins P notes a _ up.sound.ledger.opened up.since;
    };
    noted = noted_in y.words.pins a P notes.begun even;
    told = told_same (looked y a).words.pins P notes.changed;
  }
  | inr odd ↦ record {
    notes = notes;
    up = record {
      began = up.began;
      sound = look_out_keeps n calls y callers disk life.history P notes up.sound a low high fresh (omega (arith, odd)) none;
      after = out_after y.words.pins a _ callers (entries y.shape.passes callers notes) life.history notes.begun none up.after;
      since = since_out n y.words.pins notes.begun a _ (inl (omega (arith, odd))) low (omega (arith, high, up.sound.trace.pins)) up.since;
    };
    noted = noted_out y.words.pins a P notes.begun (omega (arith, odd)) low (omega (arith, high, up.sound.trace.pins));
    told = told_same (looked y a).words.pins P notes.changed;
  }
]

-- each step of an open service
module _ (n calls : ℕ) (service : Service) (disk : Medium) (life : Life) (P : Trace) (notes : Notes) (up : UpSound n calls service disk life P notes) where
  abbrev pins : List ℕ
  pins = service.yard.words.pins

  -- where its notes stay
  same_notes : {m : ℕ} {after : Life} {yard : Yard} {callers : List (Option Caller)} {new : Medium} → yard.words.pins ≡ pins → UpSound n m (record { yard = yard; callers = callers }) new after P notes
      → GoesOn n m after pins P notes (record { yard = yard; callers = callers }) new P
  same_notes {yard = yard} same up' = record { notes = notes; up = up'; noted = noted_same pins yard.words.pins P notes.begun same; told = told_same yard.words.pins P notes.changed }

  module _ (a : ℕ) where
    call_next : (c : Command) → MayStep (Up service disk) (Calls a c) → NextAt n (suc calls) (marked life (Call (suc calls) a c ∷ [])) pins P notes (state_after (suc calls) (Up service disk) (Calls a c)) P
    call_next c may = same_notes refl (call_up n calls service disk life P notes a c may up)

    going_next : (i : ℕ) (c : Command) (at : Progress) → caller_at service.callers a ≡ Some (call_at i c at) → reply_at at ≡ None → HasTurn service a (Some (call_at i c at))
        → NextAt n calls life pins P notes (after_turn service disk a (Some (call_at i c at))) (turn_publishes service a (Some (call_at i c at)) ++ P)
    going_next i c at is goes_on may =
        let done = turn_up n calls service.yard service.callers disk life.history P life.start notes up a i c at is goes_on may in
        record { notes = done.0; up = done.1; noted = done.2; told = done.3 }

    abbrev TurnNext : Option Caller → Type 0
    TurnNext who = NextAt n calls (marked life (marks_of_turn who)) pins P notes (after_turn service disk a who) (turn_publishes service a who ++ P)

    answer_next : (i : ℕ) (c : Command) (reply : Reply) → caller_at service.callers a ≡ Some (call_at i c (Answering reply)) → HasTurn service a (Some (call_at i c (Answering reply))) → TurnNext (Some (call_at i c (Answering reply)))
    answer_next i c reply is may =
        let done = answer_up n calls service.yard service.callers disk life.history P life.start notes a i c reply is up may in
        subst (λ (new : Trace). NextAt n calls (marked life (mark_of i reply ∷ [])) pins P notes (after_turn service disk a (Some (call_at i c (Answering reply)))) (new ++ P)) (sym (answer_publishes service.yard a))
        (record { notes = done.0; up = done.1; noted = done.2; told = done.3 })

    caller_next : (i : ℕ) (c : Command) (at : Progress) → caller_at service.callers a ≡ Some (call_at i c at) → HasTurn service a (Some (call_at i c at)) → TurnNext (Some (call_at i c at))
    caller_next i c (Answering reply) is may = answer_next i c reply is may
    caller_next i c at is may = going_next i c at is refl may

    turn_next : (who : Option Caller) → caller_at service.callers a ≡ who → HasTurn service a who → TurnNext who
    turn_next None is may = absurd may
    turn_next (Some caller) is may = caller_next caller.number caller.command caller.progress is may

    fault_next : (new : Medium) (who : Option Caller) → caller_at service.callers a ≡ who → HasFault service disk a who new → NextAt n calls life pins P notes (after_fault service new a who) P
    fault_next new None is may = absurd may
    fault_next new (Some caller) is may = same_notes refl (fault_up n calls service.yard service.callers disk life.history P life.start notes up a caller.number caller.command caller.progress is new may)

    look_next : MayStep (Up service disk) (Looks a) → NextAt n calls life pins P notes (state_after (suc calls) (Up service disk) (Looks a)) P
    look_next may = look_up n calls service.yard service.callers disk life P notes a may.0.0 may.0.1 (none_of (caller_at service.callers a) may.1) may.2 up

  pub up_next : (step : Transition) → MayStep (Up service disk) step
      → NextAt n (calls_made_after calls step) (marked life (marks_of (suc calls) (Up service disk) step)) pins P notes (state_after (suc calls) (Up service disk) step) (trace_after (Up service disk) P step)
  up_next (Calls a c) may = call_next a c may
  up_next (Turn a) may = turn_next a (caller_at service.callers a) refl may
  up_next (Fails a new) may = fault_next a new (caller_at service.callers a) refl may
  up_next (Looks a) may = look_next a may
  up_next Trips may = same_notes refl up
  up_next Opens may = absurd may
  up_next (OpenFails why done) may = absurd may
  up_next _ may = tt

-- the mark of a reply is put onto the newest life
pub reply_lives : (S : Keys) (i : ℕ) (reply : Reply) (M : History) → lives S (mark_of i reply ∷ M) ≡ with_mark (mark_of i reply) (lives S M)
reply_lives S i reply M = grind (arith, nat_tests)

-- the newest life with the marks of a step
abbrev with_marks : List HistoryEvent → List Life → List Life
with_marks marks [] = []
with_marks marks (life ∷ earlier) = marked life marks ∷ earlier

none_marked : (L : List Life) → L ≡ with_marks [] L
none_marked L = grind (arith, nat_tests)

one_marked : (m : HistoryEvent) (L : List Life) → with_mark m L ≡ with_marks (m ∷ []) L
one_marked m _ = refl

turn_lives : (S : Keys) (i : ℕ) (reply : Option Reply) (M : History) → lives S (mark_of_turn i reply ++ M) ≡ with_marks (mark_of_turn i reply) (lives S M)
turn_lives S i reply M = grind (arith, nat_tests, none_marked, reply_lives, one_marked)

module _ (start : Start) (service : Service) (disk : Medium) (M : History) (P : Trace) (calls : ℕ) (sound : IsSound start (point (Up service disk) M P calls)) where
  -- the point after a step that leaves the service open
  point_sound : (m : ℕ) (after : Service) (new : Medium) (marks : List HistoryEvent) (Q : Trace) → after.yard.shape ≡ service.yard.shape → after.yard.vault.format ≡ service.yard.vault.format → lives (start_keys start) (marks ++ M) ≡ with_marks marks (lives (start_keys start) M)
      → ((n : ℕ) (life : Life) (notes : Notes) → UpSound n calls service disk life P notes → GoesOn n m (marked life marks) service.yard.words.pins P notes after new Q) → IsSound start (point (Up after new) (marks ++ M) Q m)
  point_sound m after new marks Q shape format are next = subst (PointSound start (point (Up after new) (marks ++ M) Q m)) (sym are) (go (lives (start_keys start) M) sound)
    where
      go : (L : List Life) → PointSound start (point (Up service disk) M P calls) L → PointSound start (point (Up after new) (marks ++ M) Q m) (with_marks marks L)
      go [] h = absurd h
      go (life ∷ earlier) h = let done = next h.2.0 life h.2.1 h.2.2 in (shape ∙ h.0, h.1, (h.2.0, done.notes, done.up), format ∙ h.3)

  module _ (a : ℕ) where
    turn_of : (who : Option Caller) → caller_at service.callers a ≡ who → HasTurn service a who → IsSound start (point (after_turn service disk a who) (marks_of_turn who ++ M) (turn_publishes service a who ++ P) calls)
    turn_of None is may = absurd may
    turn_of (Some caller) is may =
        let e = next_event service.yard caller in
        point_sound calls (played service a caller (line service.yard a e)) (medium_after (line_call service.yard a e) disk) (marks_of_turn (Some caller)) (turn_publishes service a (Some caller) ++ P)
        (line_keeps_shape (course service.yard a e) service.yard (actor_at service.yard a) a e) (line_keeps_format (course service.yard a e) service.yard (actor_at service.yard a) a e) (turn_lives (start_keys start) caller.number (reply_at caller.progress) M)
        (λ n life notes up. turn_next n calls service disk life P notes up a (Some caller) is may)

    fault_of : (new : Medium) (who : Option Caller) → caller_at service.callers a ≡ who → HasFault service disk a who new → IsSound start (point (after_fault service new a who) M P calls)
    fault_of new None is may = absurd may
    fault_of new (Some caller) is may =
        point_sound calls (played service a caller (line_failed service.yard a (next_event service.yard caller))) new [] P refl refl (none_marked (lives (start_keys start) M)) (λ n life notes up. fault_next n calls service disk life P notes up a new (Some caller) is may)

    pub turn_keeps : MayStep (Up service disk) (Turn a) → IsSound start (point_after (point (Up service disk) M P calls) (Turn a))
    turn_keeps may = turn_of (caller_at service.callers a) refl may

    pub fails_keeps : (new : Medium) → MayStep (Up service disk) (Fails a new) → IsSound start (point_after (point (Up service disk) M P calls) (Fails a new))
    fails_keeps new may = fault_of new (caller_at service.callers a) refl may

    pub looks_keeps : MayStep (Up service disk) (Looks a) → IsSound start (point_after (point (Up service disk) M P calls) (Looks a))
    looks_keeps may = point_sound calls (record { yard = looked service.yard a; callers = service.callers }) disk [] P refl refl (none_marked (lives (start_keys start) M)) (λ n life notes up. look_next n calls service disk life P notes up a may)

    pub call_keeps : (c : Command) → MayStep (Up service disk) (Calls a c) → IsSound start (point_after (point (Up service disk) M P calls) (Calls a c))
    call_keeps c may =
        point_sound (suc calls) (record { yard = invoked service.yard a c; callers = calling service.callers a (suc calls) c (begun service.yard.vault.format c) }) disk (Call (suc calls) a c ∷ []) P refl refl (one_marked (Call (suc calls) a c) (lives (start_keys start) M))
        (λ n life notes up. call_next n calls service disk life P notes up a c may)

-- A call that is made after another was cut off finds the halt word set, and comes no further than its load.
use Rattle.std.proofs.{lemmas.{Bool.{cases_eq, Decides.{nat_tests}}, Option.{same_Some, none-some}}, Common.{◌≡◌, ◌≢◌, inl, inr, ℕ, zero, suc, ◌≤◌, Bool, true}}
use Rattle.std.{proofs.Common.{false, List, [], ◌∷◌, ◌++◌, length, Option, Some, None, refl, sym, ap, ◌∙◌, subst, arith}, specs.Prelude.{if◌then◌else◌}}
use mathlib.Core.Bool.{false≢true}
use Rattle.lz_slot.specs.{declared.{command.Command.{Command}, history.HistoryEvent.TheVariants.{Call}}, Counted.{set_of_pass}, Histories.{History, IsCalled}}
use Rattle.lz_slot.proofs.Counted.{of_pass_same, of_pass_other}
use Rattle.lz_disk.specs.Images.{Medium, at_rest, synced}
use Rattle.lz_vault.specs.Vaults.{MayFail}
use Rattle.lz_list.specs.{declared.word.Word.TheVariants.{Halt as halt_word_at}, Traces.{Trace, halt_word}}
use Rattle.lz_machine.specs.declared.{course.Course.{Course}, event.{Event.{Event, TheVariants.{Pin, Hop}}, Outcome.TheVariants.{NotNow, Fault}, Reply.{Reply}}}
use Rattle.lz_machine.specs.declared.{event.Reply.TheVariants.{OldFile as SaysOldFile}, caller.Progress.{Progress, TheVariants.{Playing, LoadsHalt, Answering}}}
use Rattle.lz_machine.specs.{declared.caller.Sequence.TheVariants.{Pinning}, Yards.{Shape, Yard, actor_at, first_trace}}
use Rattle.lz_machine.specs.{Table.{call_on, course, is_old, line, line_on, line_call, line_failed, pin_of}, Calls.{begun, first_progress, progress_after}}
use Rattle.lz_machine.specs.Runs.{Caller, Service, State, Up, Down, Start, IsStart, Point, Transition, Calls, Turn, Fails, Looks, Trips, Stops, Crashes, Opens}
use Rattle.lz_machine.specs.Runs.{OpenFails, caller_at, next_event, reply_at, moved_on, opened_service, state_after, trace_after, HasTurn, HasFault, MayStep}
use Rattle.lz_machine.specs.Runs.{mark_of, mark_of_turn, marks_of_turn, marks_of, after_turn, after_fault, turn_publishes, run, IsRun, first_point}
use Rattle.lz_machine.specs.CallersSound.{IsCaller, Relies, View, view_of}
use Rattle.lz_machine.specs.Halts.{HaltLasts, HaltsLast, IsLate, IsLateReply, IsMadeLate, MayTellLate, was_cut}
use Rattle.lz_machine.proofs.{Alone.Halt.{device_word, halted_word, replies}, Frames.{OneActor.{caller_range, mine}, Publishing.{halt_stays}}}
use Rattle.lz_machine.proofs.{Open.FoundSlots.{pass_of}, Runs.{CallerTable.{fault_no_reply}, Course.{course_by, each_course}}}
use Rattle.lz_machine.proofs.Theorem.{Marks.{Tells, open_called, run_tells}, Reached.{reached_sound, IsUpAt, up_at}}

halt_after : (new P : Trace) → halt_word P ≡ 1 → halt_word (new ++ P) ≡ 1
halt_after [] P is = is
halt_after (e ∷ new) P is = halt_stays e (new ++ P) (halt_after new P is)

-- a call that was made late was made
late_called : (M : History) (i : ℕ) → IsMadeLate M i → (c : Command) × IsCalled M i c
late_called (Call j b c ∷ M) i (inl now) = (c, (b, inl (ap (λ (q : ℕ). Call q b c) now.0)))
late_called (Call j b c ∷ M) i (inr before) = let there = late_called M i before in (there.0, (there.1.0, inr there.1.1))
late_called (m ∷ M) i h = let there = late_called M i h in (there.0, (there.1.0, inr there.1.1))
late_called [] i h = absurd h

-- a reply makes no call
before_reply : (M : History) (i j : ℕ) (reply : Reply) → IsMadeLate (mark_of i reply ∷ M) j → IsMadeLate M j
before_reply M i j reply h = grind (arith, nat_tests)

-- and is one of the replies to late calls, where its call is late
may_tell : (M : History) (i : ℕ) (reply : Reply) → (IsMadeLate M i → IsLateReply reply) → MayTellLate (mark_of i reply) M
may_tell M i reply h = grind arith

-- where it cuts its call off the halt word is set
module _ (v : View) (c : Command) (P0 P : Trace) (changed : Option ℕ) (M : History) (i : ℕ) (before : was_cut M ≡ true → halt_word P ≡ 1) where
  cut_word : (reply : Reply) → Relies v c (Answering reply) P0 P changed → was_cut (mark_of i reply ∷ M) ≡ true → halt_word P ≡ 1
  cut_word reply relies cut = grind (arith, nat_tests, halted_word, device_word)

late_reply : (at : Progress) (reply : Reply) → reply_at at ≡ Some reply → IsLate at → IsLateReply reply
late_reply at reply is late = subst IsLate (replies at reply is) late

-- A late call is played on: a pinning, or the load of the halt word.
module _ (y : Yard) (a : ℕ) (shape : Shape) (c : Command) where
  abbrev GoesLate : Event → Progress → Course → Type 0
  GoesLate e at k = (line_on k y (actor_at y a) a e).1 ≢ NotNow → IsLate (progress_after shape c at (line_on k y (actor_at y a) a e).1)

  pins_late : GoesLate Pin (Playing Pinning zero) (course y a Pin)
  pins_late = each_course (GoesLate Pin (Playing Pinning zero)) y a Pin (λ dead stops. absurd (false≢true (sym stops))) (λ lacks now. absurd (now refl)) (λ pin last now. tt) (λ s sync now. absurd cc) (λ has fresh now. tt)

  loads_late : y.words.halt ≡ 1 → GoesLate (Hop halt_word_at) LoadsHalt (course y a (Hop halt_word_at))
  loads_late halted = grind (arith, course_by)

  -- neither calls the device
  no_fault_late : (k : Course) (disk new : Medium) → MayFail (call_on k y (actor_at y a) Pin) disk new → ⊥
  no_fault_late k disk new h = grind (arith, nat_tests)

  no_fault_load : (k : Course) (disk new : Medium) → MayFail (call_on k y (actor_at y a) (Hop halt_word_at)) disk new → ⊥
  no_fault_load k disk new h = grind (arith, nat_tests)

begins_late : (b : Bool) → IsLate (if b then Answering SaysOldFile else first_progress)
begins_late b = grind (arith, nat_tests)

-- Of an open call that was made late: the halt word is set, and it has come no further.
abbrev AllLate : State → History → Trace → Type 0
AllLate (Up service disk) M P = (a : ℕ) (caller : Caller) → caller_at service.callers a ≡ Some caller → IsMadeLate M caller.number → (halt_word P ≡ 1) × IsLate caller.progress
AllLate (Down shape disk) M P = Unit {0}

record Halts (w : State) (M : History) (P : Trace) : Type 0 where
  lasts : HaltLasts M
  cut : was_cut M ≡ true → halt_word P ≡ 1
  late : AllLate w M P

module _ (calls : ℕ) (y : Yard) (callers : List (Option Caller)) (disk : Medium) (M : History) (P : Trace) (there : IsUpAt calls (record { yard = y; callers = callers }) disk P)
    (told : Tells calls (Up (record { yard = y; callers = callers }) disk) M) (h : Halts (Up (record { yard = y; callers = callers }) disk) M P) where
  abbrev serving : Service
  serving = record { yard = y; callers = callers }

  -- where one actor's call changes
  changes_one : (a : ℕ) (x : Option Caller) (M' : History) (P' : Trace) → 1 ≤ a → a ≤ length callers
      → ((caller : Caller) → x ≡ Some caller → IsMadeLate M' caller.number → (halt_word P' ≡ 1) × IsLate caller.progress)
      → ((b : ℕ) (caller : Caller) → b ≢ a → caller_at callers b ≡ Some caller → IsMadeLate M' caller.number → (halt_word P' ≡ 1) × IsLate caller.progress)
      → (b : ℕ) (caller : Caller) → caller_at (set_of_pass callers a x) b ≡ Some caller → IsMadeLate M' caller.number → (halt_word P' ≡ 1) × IsLate caller.progress
  changes_one a x M' P' low high own others b caller at = elim (cases_eq b a) [
    | inl same ↦ own caller (sym (of_pass_same callers a x None low high) ∙ ap (caller_at (set_of_pass callers a x)) (sym same) ∙ at)
    | inr other ↦ others b caller other (sym (of_pass_other callers a b x None other) ∙ at)
  ]

  module _ (a : ℕ) (caller : Caller) (at : caller_at callers a ≡ Some caller) where
    known : IsCaller (view_of y.shape y.vault y.actors a) (pin_of y a) (Some caller) (there.notes.begun a) P (there.notes.changed a)
    known = (mine y.shape y.vault y.words.pins y.actors callers P there.notes a caller at there.up.sound.callers).stands

    abbrev KnownAt : Progress → Type 0
    KnownAt place = Relies (view_of y.shape y.vault y.actors a) caller.command place (there.notes.begun a) P (there.notes.changed a)

    -- its next event, where it is late
    abbrev Steps : Progress → Type 0
    Steps place =
        let e = next_event y (record caller { progress = place }) in
        (line y a e).1 ≢ NotNow → IsLate (progress_after (line y a e).0.shape caller.command place (line y a e).1)

    plays_late : (place : Progress) → KnownAt place → halt_word P ≡ 1 → IsLate place → reply_at place ≡ None → Steps place
    plays_late place relies halted late going now = grind (arith, nat_tests, pins_late, loads_late, none-some)

    fails_never : (place : Progress) → KnownAt place → IsLate place → reply_at place ≡ None → (new : Medium) → MayFail (line_call y a (next_event y (record caller { progress = place }))) disk new → ⊥
    fails_never (Playing Pinning zero) relies late going new may = no_fault_late y a y.shape caller.command (course y a Pin) disk new may
    fails_never (Playing Pinning (suc i)) relies late going new may = absurd relies
    fails_never LoadsHalt relies late going new may = no_fault_load y a y.shape caller.command (course y a (Hop halt_word_at)) disk new may
    fails_never (Answering reply) relies late going new may = absurd (none-some _ (sym going))
    fails_never _ relies late going new may = absurd late

    -- The call's turn: the reply, if it gives one, and else where it goes on.
    module _ (y' : Yard) (disk' : Medium) (new : Trace) (next : Progress) where
      abbrev after : Option Reply → State
      after reply = Up (record { yard = y'; callers = set_of_pass callers a (moved_on reply caller next) }) disk'

      turn_halts : (reply : Option Reply) → reply_at caller.progress ≡ reply → (reply ≡ None → halt_word P ≡ 1 → IsLate caller.progress → IsLate next) → Halts (after reply) (mark_of_turn caller.number reply ++ M) (new ++ P)
      turn_halts None is goes =
          let range = caller_range callers a caller at in
          record {
            lasts = h.lasts;
            cut = λ cut. halt_after new P (h.cut cut);
            late = changes_one a (Some (record { number = caller.number; command = caller.command; progress = next })) M (new ++ P) range.0 range.1
                (λ one same made.
                let was = h.late a caller at (subst (λ (q : Caller). IsMadeLate M q.number) (sym (same_Some _ _ same)) made) in
                (halt_after new P was.0, subst (λ (q : Caller). IsLate q.progress) (same_Some _ _ same) (goes refl was.0 was.1)))
                (λ b one other there made. let was = h.late b one there made in (halt_after new P was.0, was.1));
          }
      turn_halts (Some reply) is goes =
          let range = caller_range callers a caller at in
          record {
            lasts = (may_tell M caller.number reply (λ made. late_reply caller.progress reply is (h.late a caller at made).1), h.lasts);
            cut = λ cut. halt_after new P (cut_word (view_of y.shape y.vault y.actors a) caller.command (there.notes.begun a) P (there.notes.changed a) M caller.number h.cut reply
                (subst KnownAt (replies caller.progress reply is) known.2) cut);
            late = changes_one a None (mark_of caller.number reply ∷ M) (new ++ P) range.0 range.1
                (λ one same made. absurd (none-some _ same))
                (λ b one other there made. let was = h.late b one there (before_reply M caller.number one.number reply made) in (halt_after new P was.0, was.1));
          }

  done_halts : (a : ℕ) (q : Option Caller) → caller_at callers a ≡ q → HasTurn serving a q → Halts (after_turn serving disk a q) (marks_of_turn q ++ M) (turn_publishes serving a q ++ P)
  done_halts a None at may = absurd may
  done_halts a (Some caller) at may =
      let e = next_event y caller in
      turn_halts a caller at (line y a e).0 _ _ (progress_after (line y a e).0.shape caller.command caller.progress (line y a e).1) (reply_at caller.progress) refl
      (λ going halted late. plays_late a caller at caller.progress (known a caller at).2 halted late going may)

  fault_halts : (new : Medium) (a : ℕ) (q : Option Caller) → caller_at callers a ≡ q → HasFault serving disk a q new → Halts (after_fault serving new a q) M P
  fault_halts new a None at may = absurd may
  fault_halts new a (Some caller) at may =
      let none = fault_no_reply y a caller.command caller.progress disk new may in
      let e = next_event y caller in
      let next = progress_after y.shape caller.command caller.progress Fault in
      subst (λ (r : Option Reply). Halts (Up (record { yard = (line_failed y a e).0; callers = set_of_pass callers a (moved_on r caller next) }) new) M P) (sym none)
      (turn_halts a caller at (line_failed y a e).0 new [] next None none
      (λ _ halted late. absurd (fails_never a caller at caller.progress (known a caller at).2 late none new may)))

  -- a call that is made
  call_halts : (a : ℕ) (c : Command) → MayStep (Up serving disk) (Calls a c) → Halts (state_after (suc calls) (Up serving disk) (Calls a c)) (Call (suc calls) a c ∷ M) P
  call_halts a c may = record {
    lasts = (tt, h.lasts);
    cut = h.cut;
    late = changes_one a (Some (record { number = suc calls; command = c; progress = begun y.vault.format c })) (Call (suc calls) a c ∷ M) P may.0.0 (omega (arith, may.0.1, told.open_calls.0))
        (λ one same made. (
          halted (subst (λ (q : Caller). IsMadeLate (Call (suc calls) a c ∷ M) q.number) (sym (same_Some _ _ same)) made),
          subst (λ (q : Caller). IsLate q.progress) (same_Some _ _ same) (begins_late (is_old y.vault.format c)),
        ))
        (λ b one other there made. h.late b one there (earlier b one there made));
  }
    where
      halted : IsMadeLate (Call (suc calls) a c ∷ M) (suc calls) → halt_word P ≡ 1
      halted (inl now) = h.cut now.1
      halted (inr before) = let was = late_called M (suc calls) before in absurd (omega (arith, told.numbered (suc calls) was.0 was.1))

      earlier : (b : ℕ) (one : Caller) → caller_at callers b ≡ Some one → IsMadeLate (Call (suc calls) a c ∷ M) one.number → IsMadeLate M one.number
      earlier b one there (inl now) = let was = open_called M one.number b (told.open_calls.1.has b one there) in absurd (omega (arith, now.0, told.numbered one.number was.0 was.1))
      earlier b one there (inr before) = before

  up_halts : (step : Transition) → MayStep (Up serving disk) step → Halts (state_after (suc calls) (Up serving disk) step) (marks_of (suc calls) (Up serving disk) step ++ M) (trace_after (Up serving disk) P step)
  up_halts (Calls a c) may = call_halts a c may
  up_halts (Turn a) may = done_halts a (caller_at callers a) refl may
  up_halts (Fails a new) may = fault_halts new a (caller_at callers a) refl may
  up_halts (Looks a) may = record { lasts = h.lasts; cut = h.cut; late = h.late }
  up_halts Trips may = h
  up_halts Opens may = absurd may
  up_halts (OpenFails why done) may = absurd may
  up_halts _ may = record { lasts = (tt, h.lasts); cut = λ cut. absurd (false≢true cut); late = tt }

-- an open begins with no calls
none_late : (shape : Shape) (t : List ℕ) (disk : Medium) (M : History) (P : Trace) → AllLate (Up (opened_service shape t) disk) M P
none_late shape t disk M P a caller is made = absurd (none-some _ (sym (pass_of shape.passes a None) ∙ is))

down_halts : (i : ℕ) (shape : Shape) (disk : Medium) (M : History) (P : Trace) → Halts (Down shape disk) M P → (step : Transition) → MayStep (Down shape disk) step
    → Halts (state_after i (Down shape disk) step) (marks_of i (Down shape disk) step ++ M) (trace_after (Down shape disk) P step)
down_halts i shape disk M P h Trips may = h
down_halts i shape disk M P h Stops may = record { lasts = (tt, h.lasts); cut = λ cut. absurd (false≢true cut); late = tt }
down_halts i shape disk M P h (Crashes t) may = record { lasts = (tt, h.lasts); cut = λ cut. absurd (false≢true cut); late = tt }
down_halts i shape disk M P h Opens may = record { lasts = (tt, h.lasts); cut = λ cut. absurd (false≢true cut); late = none_late shape disk.seen (synced disk) (marks_of i (Down shape disk) Opens ++ M) (trace_after (Down shape disk) P Opens) }
down_halts i shape disk M P h (OpenFails why true) may = record { lasts = (tt, h.lasts); cut = λ cut. absurd (false≢true cut); late = tt }
down_halts i shape disk M P h (OpenFails why false) may = record { lasts = (tt, h.lasts); cut = λ cut. absurd (false≢true cut); late = tt }
down_halts i shape disk M P h _ may = absurd may

run_halts : (start : Start) (steps : List Transition) → IsStart start → IsRun (first_point start) steps → Halts (run (first_point start) steps).state (run (first_point start) steps).marks (run (first_point start) steps).trace
run_halts start [] starts runs = record { lasts = tt; cut = λ cut. absurd (false≢true cut); late = none_late start.shape start.text (at_rest start.bytewise start.text) [] (first_trace start.shape start.text) }
run_halts start (step ∷ steps) starts runs = go p.state refl runs.0 (run_halts start steps starts runs.1)
  where
    p : Point
    p = run (first_point start) steps

    go : (w : State) → p.state ≡ w → MayStep w step → Halts w p.marks p.trace → Halts (state_after (suc p.calls) w step) (marks_of (suc p.calls) w step ++ p.marks) (trace_after w p.trace step)
    go (Up service disk) is may h =
        up_halts p.calls service.yard service.callers disk p.marks p.trace (up_at start p service disk (reached_sound start steps starts runs.1) is)
        (subst (λ (w : State). Tells p.calls w p.marks) is (run_tells start steps runs.1)) h step may
    go (Down shape disk) is may h = down_halts (suc p.calls) shape disk p.marks p.trace h step may

pub halts_last : HaltsLast
halts_last start w M P reached = subst HaltLasts reached.marks (run_halts start reached.steps reached.starts reached.runs).lasts

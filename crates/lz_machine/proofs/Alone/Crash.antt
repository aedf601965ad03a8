-- Where one actor is alone, each text that a crash may leave holds a set that its calls lead to.
use Rattle.std.proofs.Common.{◌≡◌, ◌≢◌, inl, inr, ℕ, suc, ◌≤◌, Bool, true, false, List, [], ◌∷◌, ◌++◌, length, Option, Some, None, refl, sym, ap, ◌∙◌, subst}
use Rattle.std.proofs.{Common.{arith}, lemmas.{Bool.{cases_Bool}, Option.{none-some}}}
use Rattle.lz_slot.specs.{declared.{command.Command.{Command}, history.HistoryEvent.{HistoryEvent, TheVariants.{Call}}}, Sets.{Keys, members}, Bytes.{Holds}}
use Rattle.lz_slot.{specs.{Counted.{set_of_pass}, Histories.{History, Life, Fits, lives, with_mark}}, proofs.Counted.{of_pass_same, of_pass_other}}
use Rattle.lz_disk.specs.Images.{Medium, IsImage, at_rest}
use Rattle.lz_vault.specs.Vaults.{DeviceCall, NoCall, medium_after, MayFail}
use Rattle.lz_list.specs.Traces.{Trace}
use Rattle.lz_machine.specs.declared.{event.{Event.{Event, TheVariants.{Answer}}, Outcome.{Outcome}, Reply.{Reply}}, caller.Progress.{Progress}}
use Rattle.lz_machine.specs.{declared.caller.Progress.TheVariants.{Answering}, Yards.{Shape, Yard, actor_at, pin_in}}
use Rattle.lz_machine.specs.{Table.{course, line, line_call, line_failed, is_old}, Calls.{progress_after, begun}, Runs.{Start, IsStart, Caller, Service, State}}
use Rattle.lz_machine.specs.Runs.{Up, Down, Transition, Calls, Turn, Fails, Looks, Trips, Stops, Crashes, CrashesIn, Opens, OpenFails, Point, MayStep, MayLeave}
use Rattle.lz_machine.specs.Runs.{LeftInside, looked, HasTurn, HasFault, IsRun, run, first_point, point_after, caller_at, next_event, reply_at, moved_on}
use Rattle.lz_machine.specs.Runs.{after_turn, after_fault, opened_service, marks_of_turn, mark_of_turn, mark_of, turn_publishes, start_keys, keys_found}
use Rattle.lz_machine.specs.{Runs.{IsActor, invoked}, CallersSound.{Relies, IsCaller, view_of}, Sound.{StateSound, HasList, PointSound, IsSound}}
use Rattle.lz_machine.{specs.Alone.{IsOwn, IsAlone, has_cut, IsPlain, ArePlain, AloneIsPlain}, proofs.Runs.{PointParts.{point}, Shape.{line_keeps_shape}}}
use Rattle.lz_machine.proofs.{Runs.CallerTable.{none_of, fault_no_reply}, Crash.{Leftovers.{IsLeft}, Down.{rest_image}}, Open.FirstPoint.{one_set, down_seen}}
use Rattle.lz_machine.proofs.{Open.FoundSlots.{pass_of}, Frames.OneActor.{caller_range}, Theorem.Reached.{reached_sound}}
use Rattle.lz_machine.proofs.Alone.{Service.{Ended, served_open, served_same}, Run.{IsHalting, HasHalting, IsTold, AloneUp, IsQuietCall, answer_is_quiet}}
use Rattle.lz_machine.proofs.Alone.Run.{halting_quiet, only_images, turn_halted, answer_halt, begun_halting}
use Rattle.lz_machine.proofs.Alone.Answered.{AloneAt, AloneLives, AloneState, HasSet, cut_word, left_at, reply_ends, served_halting, served_reply}
use Rattle.lz_machine.proofs.Steps.Point.{reply_lives}

-- From point to point the newest life goes on, by a mark or by none.
module _ (start : Start) (a : ℕ) (p q : Point) where
  abbrev N : ℕ
  N = start.shape.slots

  abbrev Sets : Point → Life → Type 0
  Sets r life = (t : List ℕ) → MayLeave r.state t → HasSet N life t

  lives_stay : ((life : Life) → StateSound p p.state life → AloneState a p.calls p.state life.history → AloneState a q.calls q.state life.history)
      → ((life : Life) (t : List ℕ) → AloneState a p.calls p.state life.history → Sets p life → MayLeave q.state t → HasList N life q.trace t → HasSet N life t)
      → (L : List Life) → PointSound start p L → PointSound start q L → ((t : List ℕ) → MayLeave q.state t → IsLeft q t L) → AloneLives a N p L → AloneLives a N q L
  lives_stay states sets [] sound sound' left h = absurd h
  lives_stay states sets (life ∷ earlier) sound sound' left h = (
    states life sound.2 h.0,
    (λ t leaves. sets life t h.0 h.1 leaves (subst (λ (shape : Shape). HasList shape.slots life q.trace t) sound'.0 (left t leaves).1)),
    h.2,
  )

  lives_marked : (m : HistoryEvent) → ((life : Life) → StateSound p p.state life → AloneState a p.calls p.state life.history → AloneState a q.calls q.state (m ∷ life.history))
      → ((life : Life) (t : List ℕ) → AloneState a p.calls p.state life.history → Sets p life → MayLeave q.state t → HasList N (record { start = life.start; history = m ∷ life.history }) q.trace t → HasSet N (record { start = life.start; history = m ∷ life.history }) t)
      → (L : List Life) → PointSound start p L → PointSound start q (with_mark m L) → ((t : List ℕ) → MayLeave q.state t → IsLeft q t (with_mark m L)) → AloneLives a N p L → AloneLives a N q (with_mark m L)
  lives_marked m states sets [] sound sound' left h = absurd h
  lives_marked m states sets (life ∷ earlier) sound sound' left h = (
    states life sound.2 h.0,
    (λ t leaves. sets life t h.0 h.1 leaves (subst (λ (shape : Shape). HasList shape.slots (record { start = life.start; history = m ∷ life.history }) q.trace t) sound'.0 (left t leaves).1)),
    h.2,
  )

module _ (start : Start) (a : ℕ) (service : Service) (disk : Medium) (M : History) (P : Trace) (calls : ℕ) (sound : IsSound start (point (Up service disk) M P calls)) (alone : AloneAt start a (point (Up service disk) M P calls)) where
  abbrev before : Point
  before = point (Up service disk) M P calls

  abbrev L : List Life
  L = lives (start_keys start) M

  abbrev y : Yard
  y = service.yard

  away : (x : Option Caller) → ((b : ℕ) → b ≢ a → caller_at service.callers b ≡ None) → (b : ℕ) → b ≢ a → caller_at (set_of_pass service.callers a x) b ≡ None
  away x others b other = of_pass_other service.callers a b x None other ∙ others b other

  -- a call
  module _ (c : Command) (actor : IsActor service a) (none : caller_at service.callers a ≡ None) (range : a ≤ length service.callers) where
    abbrev new_call : Caller
    new_call = record { number = suc calls; command = c; progress = begun y.vault.format c }

    abbrev called : Point
    called = point_after before (Calls a c)

    abbrev calling : Service
    calling = record { yard = invoked y a c; callers = set_of_pass service.callers a (Some new_call) }

    here : caller_at calling.callers a ≡ Some new_call
    here = of_pass_same service.callers a (Some new_call) None actor.0 range

    call_told : (H : History) → AloneUp a (suc calls) service H → AloneUp a (suc (suc calls)) calling (Call (suc calls) a c ∷ H)
    call_told H h = grind (arith, away, here, begun_halting)

    pub call_alone : IsSound start called → AloneAt start a called
    call_alone sound' =
        lives_marked start a before called (Call (suc calls) a c) (λ life st h. call_told life.history h)
        (λ life t h old leaves list.
        let was = old t (inl (only_images a calling disk (away (Some new_call) h.others) (subst (IsQuietCall calling a) (sym here) (halting_quiet (invoked y a c) a c (begun y.vault.format c) (begun_halting (is_old y.vault.format c)))) t leaves)) in
        (was.0, was.1, inl was.2))
        L sound sound' (λ t leaves. left_at start called t sound' leaves) alone

  -- a turn of the actor's call
  module _ (caller : Caller) (at : caller_at service.callers a ≡ Some caller) where
    abbrev i : ℕ
    i = caller.number

    abbrev c : Command
    c = caller.command

    range : (1 ≤ a) × (a ≤ length service.callers)
    range = caller_range service.callers a caller at

    same_caller : (x : Option Caller) → caller_at (set_of_pass service.callers a x) a ≡ x
    same_caller x = of_pass_same service.callers a x None range.0 range.1

    told_of : (H : History) → AloneUp a (suc calls) service H → IsTold a (suc calls) (Some caller) H
    told_of H h = subst (λ (who : Option Caller). IsTold a (suc calls) who H) at h.told

    halting_of : (H : History) → AloneUp a (suc calls) service H → has_cut H ≡ true → (y.words.halt ≡ 1) × IsHalting caller.progress
    halting_of H h cut = ((h.halted cut).0, subst HasHalting at (h.halted cut).1)

    -- what its list leads to is served, where no call was cut off
    fits_open : (N : ℕ) (life : Life) (t : List ℕ) (trace : Trace) → AloneUp a (suc calls) service life.history → has_cut life.history ≡ false → HasList N life trace t → HasSet N life t
    fits_open N life t trace h clean list = grind (arith, served_open)

    module _ (after : Yard × Outcome) (new : Medium) (trace : Trace) where
      abbrev next : Progress
      next = progress_after after.0.shape c caller.progress after.1

      abbrev went : Service
      went = record { yard = after.0; callers = set_of_pass service.callers a (Some (record { number = i; command = c; progress = next })) }

      abbrev gone_on : Point
      gone_on = point (Up went new) M trace calls

      abbrev ended : Reply → Point
      ended reply = point (Up (record { yard = after.0; callers = set_of_pass service.callers a None }) new) (mark_of i reply ∷ M) trace calls

      -- it goes on; once a call was cut off, nothing is written
      goes_alone : ((y.words.halt ≡ 1) → IsHalting caller.progress → (after.0.words.halt ≡ 1) × IsHalting next × (new ≡ disk) × (line_call after.0 a (next_event after.0 (record { number = i; command = c; progress = next })) ≡ NoCall))
          → IsSound start gone_on → AloneAt start a gone_on
      goes_alone halts sound' =
          lives_stay start a before gone_on (λ life st h. going life.history h) (λ life t h old leaves list. sets life t h old leaves list) L sound sound' (λ t leaves. left_at start gone_on t sound' leaves) alone
        where
          going : (H : History) → AloneUp a (suc calls) service H → AloneUp a (suc calls) went H
          going H h = record {
            others = away _ h.others;
            told = subst (λ (who : Option Caller). IsTold a (suc calls) who H) (sym (same_caller _)) (told_of H h);
            halted = λ cut. let was = halting_of H h cut in let now = halts was.0 was.1 in (now.0, subst HasHalting (sym (same_caller _)) now.1);
          }

          sets : (life : Life) (t : List ℕ) → AloneUp a (suc calls) service life.history → ((u : List ℕ) → MayLeave (Up service disk) u → HasSet start.shape.slots life u) → MayLeave (Up went new) t → HasList start.shape.slots life trace t → HasSet start.shape.slots life t
          sets life t h old leaves list = elim (cases_Bool (has_cut life.history)) [
            | inl cut ↦
                let was = halting_of life.history h cut in
                let now = halts was.0 was.1 in
                old t (inl (subst (λ (d : Medium). IsImage d t) now.2 (only_images a went new (away _ h.others) (subst (IsQuietCall went a) (sym (same_caller _)) now.3) t leaves)))
            | inr clean ↦ fits_open start.shape.slots life t trace h clean list
          ]

      -- it ends
      ends_alone : (reply : Reply) → caller.progress ≡ Answering reply → after.0.words.halt ≡ y.words.halt → new ≡ disk → IsSound start (ended reply) → AloneAt start a (ended reply)
      ends_alone reply is halt same sound' =
          subst (AloneLives a start.shape.slots (ended reply)) (sym (reply_lives (start_keys start) i reply M))
          (lives_marked start a before (ended reply) (mark_of i reply) states sets L sound
          (subst (PointSound start (ended reply)) (reply_lives (start_keys start) i reply M) sound')
          (λ t leaves. subst (IsLeft (ended reply) t) (reply_lives (start_keys start) i reply M) (left_at start (ended reply) t sound' leaves)) alone)
        where
          halt_now : (life : Life) → StateSound before (Up service disk) life → AloneUp a (suc calls) service life.history → has_cut (mark_of i reply ∷ life.history) ≡ true → y.words.halt ≡ 1
          halt_now life st h cut = elim (cases_Bool (has_cut life.history)) [
            | inl was ↦ (h.halted was).0
            | inr clean ↦
                let stands = subst (λ (who : Option Caller). IsCaller (view_of y.shape y.vault y.actors a) (pin_in y.words.pins a) who (st.1.begun a) P (st.1.changed a)) at (st.2.sound.callers.each a).stands in
                st.2.sound.trace.halt ∙ cut_word (view_of y.shape y.vault y.actors a) c (st.1.begun a) P (st.1.changed a) life.history i reply (subst (λ (q : Progress). Relies (view_of y.shape y.vault y.actors a) c q (st.1.begun a) P (st.1.changed a)) is stands.2) cut clean
          ]

          states : (life : Life) → StateSound before (Up service disk) life → AloneUp a (suc calls) service life.history → AloneUp a (suc calls) (record { yard = after.0; callers = set_of_pass service.callers a None }) (mark_of i reply ∷ life.history)
          states life st h =
              let told = told_of life.history h in
              record {
                others = away None h.others;
                told = subst (λ (who : Option Caller). IsTold a (suc calls) who (mark_of i reply ∷ life.history)) (sym (same_caller None)) (subst (λ (H : History). Ended (suc calls) (mark_of i reply ∷ H)) (sym told.1) (reply_ends i reply, told.2, told.3));
                halted = λ cut. (halt ∙ halt_now life st h cut, subst HasHalting (sym (same_caller None)) tt);
              }

          sets : (life : Life) (t : List ℕ) → AloneUp a (suc calls) service life.history → ((u : List ℕ) → MayLeave (Up service disk) u → HasSet start.shape.slots life u)
              → MayLeave (Up (record { yard = after.0; callers = set_of_pass service.callers a None }) new) t → HasList start.shape.slots (record { start = life.start; history = mark_of i reply ∷ life.history }) trace t
              → HasSet start.shape.slots (record { start = life.start; history = mark_of i reply ∷ life.history }) t
          sets life t h old leaves list = elim (cases_Bool (has_cut life.history)) [
            | inl cut ↦
                let was = old t (inl (subst (λ (d : Medium). IsImage d t) same (only_images a
                (record { yard = after.0; callers = set_of_pass service.callers a None }) new (away None h.others)
                (subst (IsQuietCall (record { yard = after.0; callers = set_of_pass service.callers a None }) a) (sym (same_caller None)) tt) t leaves))) in (
                  was.0,
                  was.1,
                  subst (λ (H : History). IsPlain life.start (mark_of i reply ∷ H) was.0) (sym told.1)
                      (served_halting life.start i a c reply told.0 was.0 (subst IsHalting is (halting_of life.history h cut).1) (subst (λ (H : History). has_cut H ≡ true) told.1 cut) (subst (λ (H : History). IsPlain life.start H was.0) told.1 was.2)),
                )
            | inr clean ↦ (
              list.found,
              list.holds,
              subst (λ (H : History). IsPlain life.start (mark_of i reply ∷ H) list.found) (sym told.1)
                  (served_reply (suc calls) i a c reply told.0 life.start list.calls list.found told.2 told.3 (subst (λ (H : History). has_cut H ≡ false) told.1 clean) (subst (λ (H : History). Fits life.start (mark_of i reply ∷ H) list.calls list.found) told.1 list.fits)),
            )
          ]
            where
              told : IsTold a (suc calls) (Some caller) life.history
              told = told_of life.history h

  abbrev turned_to : Option Caller → Point
  turned_to who = point (after_turn service disk a who) (marks_of_turn who ++ M) (turn_publishes service a who ++ P) calls

  abbrev failed_to : Medium → Option Caller → Point
  failed_to new who = point (after_fault service new a who) M P calls

  abbrev call_of_at : ℕ → Command → Progress → Caller
  call_of_at i c at = record { number = i; command = c; progress = at }

  going_on : (i : ℕ) (c : Command) (at : Progress) → caller_at service.callers a ≡ Some (call_of_at i c at) → reply_at at ≡ None → HasTurn service a (Some (call_of_at i c at))
      → IsSound start (turned_to (Some (call_of_at i c at))) → AloneAt start a (turned_to (Some (call_of_at i c at)))
  going_on i c at is goes may =
      subst (λ (r : Option Reply). IsSound start (of_reply r) → AloneAt start a (of_reply r)) (sym goes)
      (goes_alone (call_of_at i c at) is (line y a e) (medium_after (line_call y a e) disk) (turn_publishes service a (Some (call_of_at i c at)) ++ P) halts)
    where
      e : Event
      e = next_event y (call_of_at i c at)

      of_reply : Option Reply → Point
      of_reply r = point (Up (record {
        yard = (line y a (next_event y (call_of_at i c at))).0;
        callers = set_of_pass service.callers a
            (moved_on r (call_of_at i c at) (progress_after (line y a (next_event y (call_of_at i c at))).0.shape c at (line y a (next_event y (call_of_at i c at))).1));
      })
          (medium_after (line_call y a (next_event y (call_of_at i c at))) disk))
          (mark_of_turn i r ++ M) (turn_publishes service a (Some (call_of_at i c at)) ++ P) calls

      halts : (y.words.halt ≡ 1) → IsHalting at → ((line y a e).0.words.halt ≡ 1) × IsHalting (progress_after (line y a e).0.shape c at (line y a e).1) × (medium_after (line_call y a e) disk ≡ disk)
          × (line_call (line y a e).0 a (next_event (line y a e).0 (call_of_at i c (progress_after (line y a e).0.shape c at (line y a e).1))) ≡ NoCall)
      halts halt halting =
          let now = turn_halted y a c halt at halting (λ reply same. none-some reply (sym goes ∙ ap reply_at same)) may in
          let next = subst (λ (shape : Shape). IsHalting (progress_after shape c at (line y a e).1)) (sym (line_keeps_shape (course y a e) y (actor_at y a) a e)) now.1 in (
            now.0,
            next,
            ap (λ (call : DeviceCall). medium_after call disk) (halting_quiet y a c at halting),
            halting_quiet (line y a e).0 a c (progress_after (line y a e).0.shape c at (line y a e).1) next,
          )

  turn_point : (i : ℕ) (c : Command) (at : Progress) → caller_at service.callers a ≡ Some (call_of_at i c at) → HasTurn service a (Some (call_of_at i c at))
      → IsSound start (turned_to (Some (call_of_at i c at))) → AloneAt start a (turned_to (Some (call_of_at i c at)))
  turn_point i c (Answering reply) is may =
      ends_alone (call_of_at i c (Answering reply)) is (line y a Answer) (medium_after (line_call y a Answer) disk) (turn_publishes service a (Some (call_of_at i c (Answering reply))) ++ P) reply refl (answer_halt y a) (ap (λ (call : DeviceCall). medium_after call disk) (answer_is_quiet y a))
  turn_point i c at is may = going_on i c at is refl may

  turn_of : (who : Option Caller) → caller_at service.callers a ≡ who → HasTurn service a who → IsSound start (turned_to who) → AloneAt start a (turned_to who)
  turn_of None is may = absurd may
  turn_of (Some caller) is may = turn_point caller.number caller.command caller.progress is may

  -- one whose device call fails
  fault_of : (new : Medium) (who : Option Caller) → caller_at service.callers a ≡ who → HasFault service disk a who new → IsSound start (failed_to new who) → AloneAt start a (failed_to new who)
  fault_of new None is may = absurd may
  fault_of new (Some caller) is may =
      subst (λ (r : Option Reply). IsSound start (of_reply r) → AloneAt start a (of_reply r)) (sym (fault_no_reply y a caller.command caller.progress disk new may))
      (goes_alone caller is (line_failed y a (next_event y caller)) new P (λ halt halting. absurd (subst (λ (call : DeviceCall). MayFail call disk new) (halting_quiet y a caller.command caller.progress halting) may)))
    where
      of_reply : Option Reply → Point
      of_reply r = point (Up (record {
        yard = (line_failed y a (next_event y caller)).0;
        callers = set_of_pass service.callers a
            (moved_on r caller (progress_after (line_failed y a (next_event y caller)).0.shape caller.command caller.progress
            (line_failed y a (next_event y caller)).1));
      }) new) M P calls

  -- a look
  look_alone : caller_at service.callers a ≡ None → IsSound start (point_after before (Looks a)) → AloneAt start a (point_after before (Looks a))
  look_alone none sound' =
      lives_stay start a before (point_after before (Looks a)) (λ life st h. record { others = h.others; told = h.told; halted = h.halted })
      (λ life t h old leaves list. old t (inl (only_images a (record { yard = looked y a; callers = service.callers }) disk h.others (subst (IsQuietCall (record { yard = looked y a; callers = service.callers }) a) (sym none) tt) t leaves)))
      L sound sound' (λ t leaves. left_at start (point_after before (Looks a)) t sound' leaves) alone

  abbrev AloneAfter : Transition → Type 0
  AloneAfter step = MayStep (Up service disk) step → IsSound start (point_after before step) → AloneAt start a (point_after before step)

  callers_count : caller_at service.callers a ≡ None → IsActor service a → a ≤ length service.callers
  callers_count none actor = grind arith

  pub up_alone : (step : Transition) → IsOwn a step → AloneAfter step
  up_alone (Calls b d) own may sound' = grind (arith, none_of, call_alone, callers_count)
  up_alone (Turn b) own may sound' = subst (λ (q : ℕ). AloneAfter (Turn q)) (sym own) (λ may sound'. turn_of (caller_at service.callers a) refl may sound') may sound'
  up_alone (Fails b new) own may sound' = subst (λ (q : ℕ). AloneAfter (Fails q new)) (sym own) (λ may sound'. fault_of new (caller_at service.callers a) refl may sound') may sound'
  up_alone (Looks b) own may sound' = subst (λ (q : ℕ). AloneAfter (Looks q)) (sym own) (λ may sound'. look_alone (none_of (caller_at service.callers a) may.1) sound') may sound'
  up_alone Trips own may sound' = alone
  up_alone Stops own may sound' =
      lives_stay start a before (point_after before Stops) (λ life st h. tt) (λ life t h old leaves list. old t (inl leaves)) L sound sound' (λ t leaves. left_at start (point_after before Stops) t sound' leaves) alone
  up_alone (Crashes u) own may sound' =
      lives_stay start a before (point_after before (Crashes u)) (λ life st h. tt) (λ life t h old leaves list. old t (inl (subst (IsImage disk) (sym (rest_image u t leaves)) may))) L sound sound' (λ t leaves. left_at start (point_after before (Crashes u)) t sound' leaves) alone
  up_alone (CrashesIn b u) own may sound' =
      lives_stay start a before (point_after before (CrashesIn b u)) (λ life st h. tt) (λ life t h old leaves list. old t (inr (b, subst (LeftInside service disk b (caller_at service.callers b)) (sym (rest_image u t leaves)) may))) L sound sound'
      (λ t leaves. left_at start (point_after before (CrashesIn b u)) t sound' leaves) alone
  up_alone _ own may sound' = absurd may

-- no calls yet
opened_alone : (a calls : ℕ) (shape : Shape) (t : List ℕ) → AloneUp a (suc calls) (opened_service shape t) []
opened_alone a calls shape t = grind (arith, pass_of)

-- what an open read is its only image
opened_texts : (a : ℕ) (shape : Shape) (b : Bool) (t u : List ℕ) → MayLeave (Up (opened_service shape t) (at_rest b t)) u → u ≡ t
opened_texts a shape b t u leaves = rest_image t u (only_images a (opened_service shape t) (at_rest b t) (λ b other. pass_of shape.passes b None) (subst (IsQuietCall (opened_service shape t) a) (sym (pass_of shape.passes a None)) tt) u leaves)

module _ (start : Start) (a : ℕ) (shape : Shape) (disk : Medium) (M : History) (P : Trace) (calls : ℕ) (sound : IsSound start (point (Down shape disk) M P calls)) (alone : AloneAt start a (point (Down shape disk) M P calls)) where
  abbrev down : Point
  down = point (Down shape disk) M P calls

  abbrev DownAfter : Transition → Type 0
  DownAfter step = MayStep (Down shape disk) step → IsSound start (point_after down step) → AloneAt start a (point_after down step)

  read_image : IsImage disk disk.seen
  read_image = down_seen start shape disk M P calls sound

  open_alone : MayStep (Down shape disk) Opens → AloneAt start a (point_after down Opens)
  open_alone may = go (lives (start_keys start) M) sound alone
    where
      go : (K : List Life) → PointSound start down K → AloneLives a start.shape.slots down K → AloneLives a start.shape.slots (point_after down Opens) (record { start = members (keys_found disk.seen shape.slots); history = [] } ∷ K)
      go [] sound h = absurd h
      go (life ∷ earlier) sound h =
          let was = h.1 disk.seen read_image in
          let holds : Holds disk.seen start.shape.slots (members (keys_found disk.seen shape.slots)) = subst (λ (s : Shape). Holds disk.seen s.slots (members (keys_found disk.seen shape.slots))) sound.0 may in (
            opened_alone a calls shape disk.seen,
            (λ t leaves. (members (keys_found disk.seen shape.slots), subst (λ (u : List ℕ). Holds u start.shape.slots (members (keys_found disk.seen shape.slots))) (sym (opened_texts a shape disk.bytewise disk.seen t leaves)) holds, λ k. refl)),
            (served_same life.history life.start was.0 (members (keys_found disk.seen shape.slots)) (one_set disk.seen start.shape.slots was.0 (members (keys_found disk.seen shape.slots)) was.1 holds) was.2, h.2),
          )

  pub down_alone : (step : Transition) → IsOwn a step → DownAfter step
  down_alone Trips own may sound' = alone
  down_alone Stops own may sound' = grind (arith, lives_stay, left_at)
  down_alone (Crashes u) own may sound' =
      lives_stay start a down (point_after down (Crashes u)) (λ life st h. tt) (λ life t h old leaves list. old t (subst (IsImage disk) (sym (rest_image u t leaves)) may)) (lives (start_keys start) M) sound sound' (λ t leaves. left_at start (point_after down (Crashes u)) t sound' leaves) alone
  down_alone Opens own may sound' = open_alone may
  down_alone (OpenFails why true) own may sound' =
      lives_stay start a down (point_after down (OpenFails why true)) (λ life st h. tt)
      (λ life t h old leaves list. old t (subst (IsImage disk) (sym (rest_image disk.seen t leaves)) read_image)) (lives (start_keys start) M) sound sound'
      (λ t leaves. left_at start (point_after down (OpenFails why true)) t sound' leaves) alone
  down_alone (OpenFails why false) own may sound' = grind (arith, lives_stay, left_at)
  down_alone _ own may sound' = absurd may

step_alone : (start : Start) (a : ℕ) (w : State) (M : History) (P : Trace) (calls : ℕ) (step : Transition) → IsOwn a step → MayStep w step → IsSound start
    (point w M P calls) → AloneAt start a (point w M P calls) → IsSound start (point_after (point w M P calls) step) → AloneAt start a
    (point_after (point w M P calls) step)
step_alone start a (Up service disk) M P calls step own may sound alone sound' = up_alone start a service disk M P calls sound alone step own may sound'
step_alone start a (Down shape disk) M P calls step own may sound alone sound' = down_alone start a shape disk M P calls sound alone step own may sound'

-- the induction
pub reached_alone : (start : Start) (steps : List Transition) (a : ℕ) → IsStart start → IsRun (first_point start) steps → IsAlone a steps → AloneAt start a (run (first_point start) steps)
reached_alone start [] a is runs alone = (
  opened_alone a 0 start.shape start.text,
  (λ t leaves. (start_keys start, subst (λ (u : List ℕ). Holds u start.shape.slots (start_keys start)) (sym (opened_texts a start.shape start.bytewise start.text t leaves)) is.text, λ k. refl)),
  tt,
)
reached_alone start (step ∷ steps) a is runs alone =
    let p = run (first_point start) steps in
    step_alone start a p.state p.marks p.trace p.calls step alone.0 runs.0 (reached_sound start steps is runs.1) (reached_alone start steps a is runs.1 alone.1) (reached_sound start (step ∷ steps) is runs)

-- Where one actor is alone, each text that a crash may leave holds a set to which the lives lead as plain sets.
pub alone_is_plain : AloneIsPlain
alone_is_plain start steps a t is runs alone leaves = go (lives (start_keys start) (run (first_point start) steps).marks) (reached_alone start steps a is runs alone)
  where
    go : (L : List Life) → AloneLives a start.shape.slots (run (first_point start) steps) L → (T : Keys) × Holds t start.shape.slots T × ArePlain L T
    go [] h = absurd h
    go (life ∷ earlier) h = let set = h.1 t leaves in (set.0, set.1, (set.2, h.2))

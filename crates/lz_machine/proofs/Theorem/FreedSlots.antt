-- A slot that becomes free was left by each pass: since it was unlinked, each was outside in some state.
use Rattle.std.proofs.Common.{◌≡◌, ◌⊎◌, ⊎_elim, inl, inr, ℕ, if◌then◌else◌, true, List, [], ◌∷◌, ◌++◌, Option, Some, None, refl, sym, ap, ◌∙◌, subst, arith}
use Rattle.std.proofs.{Common.{suc}, lemmas.Bool.{cases_Bool, Decides.{eqb_tells, nat_tests}}}
use Rattle.lz_disk.specs.Images.{Medium}
use Rattle.lz_allot.specs.{declared.sight.Sight.{Sight}, Uses.{Moment, use_of, collect_at, is_outside, was_outside}}
use Rattle.lz_list.specs.{declared.publishing.Publishing.TheVariants.{Unlinked as unlinked}, Pinned.{Stood}}
use Rattle.lz_list.{specs.Traces.{Trace, Begins, Lawful, bucket_of, on, chain}, proofs.Traces.{Absence.{begins_itself}, Hindsight.{once_from}}}
use Rattle.lz_machine.specs.{Yards.{IsInside, pin_in, first_trace}, CallsStand.{is_out, trace_outside}, Runs.{Start, Caller, Service, State, Up, Down}}
use Rattle.lz_machine.specs.Runs.{Transition, Calls, Turn, Fails, Looks, Trips, Opens, OpenFails, Point, MayStep, IsRun, run, first_point, caller_at}
use Rattle.lz_machine.specs.Runs.{state_after, trace_after, after_turn, after_fault, turn_publishes, opened_service, pins_of, unlinkings, moments_of_step}
use Rattle.lz_machine.specs.{Runs.{moments, played, next_event, invoked, looked}, FreedSlots.{FreedIsAllFree}, Limbo.{IsAway, IsRightSight}}
use Rattle.lz_machine.{specs.Table.{line, line_failed}, proofs.{Frames.Uses.{collected_free, free_limbo, left_of, use_map}, Open.FoundSlots.{pass_of}}}
use Rattle.lz_machine.proofs.Theorem.TraceOutside.{IsTied, tied}

-- a slot was unlinked since the trace P0
abbrev IsUnlinkedSince : ℕ → Trace → Trace → Type 0
IsUnlinkedSince s P0 [] = ⊥
IsUnlinkedSince s P0 (unlinked k t p ∷ P) = ((t ≡ s) × Begins P0 P) ⊎ IsUnlinkedSince s P0 P
IsUnlinkedSince s P0 (_ ∷ P) = IsUnlinkedSince s P0 P

-- so it stood on a chain since then
stood_since : (buckets slots s : ℕ) (P0 P : Trace) → Lawful buckets slots P → IsUnlinkedSince s P0 P → (b : ℕ) × Stood buckets b P0 P (suc s)
stood_since buckets slots s P0 (unlinked k t p ∷ P) law (inl (same, begins)) =
    let b = bucket_of buckets k in
    (b, inr (once_from P0 P P (λ R. on 0 (chain buckets b R) (suc s) ≡ true) begins (begins_itself P) (subst (λ (q : ℕ). on 0 (chain buckets b P) (suc q) ≡ true) same law.0.stands)))
stood_since buckets slots s P0 (unlinked k t p ∷ P) law (inr before) = let there = stood_since buckets slots s P0 P law.1 before in (there.0, inr there.1)
stood_since buckets slots s P0 (e ∷ P) law since = let there = stood_since buckets slots s P0 P law.1 since in (there.0, inr there.1)
stood_since buckets slots s P0 [] law since = absurd since

module _ (s q : ℕ) where
  -- the pass was outside since the slot was unlinked, or the slot was unlinked since the trace P0
  abbrev IsPast : List Moment → Trace → Trace → Type 0
  IsPast ms P0 P = Begins P0 P × ((was_outside s q ms ≡ true) ⊎ IsUnlinkedSince s P0 P)

  past_publishing : (new : Trace) (ms : List Moment) (P0 P : Trace) → IsPast ms P0 P → IsPast (unlinkings new ++ ms) P0 (new ++ P)
  past_publishing [] ms P0 P h = h
  past_publishing (unlinked k t p ∷ new) ms P0 P h = grind (arith, eqb_tells, past_publishing new ms P0 P h)
  past_publishing (e ∷ new) ms P0 P h = let before = past_publishing new ms P0 P h in (inr before.0, before.1)

  -- of an open service, with the trace at which the pass went in
  abbrev PastAt : State → List Moment → Trace → Trace → Type 0
  PastAt (Up service disk) ms P0 P = IsPast ms P0 P
  PastAt (Down shape disk) ms P0 P = Unit {0}

  abbrev begun_after : State → Trace → Trace → Trace
  begun_after w P0 P = if is_out w q then P else P0

  -- the pins of a state count as a moment
  shown : (service : Service) (disk : Medium) (ms : List Moment) (P0 P : Trace) → IsPast ms P0 P → IsPast (pins_of (Up service disk) ++ ms) (begun_after (Up service disk) P0 P) P
  shown service disk ms P0 P h = grind (arith, cases_Bool, begins_itself)

  -- where the pass is outside nothing need be known
  shown_out : (w : State) (ms : List Moment) (P0 P : Trace) → is_out w q ≡ true → PastAt w (pins_of w ++ ms) (begun_after w P0 P) P
  shown_out w ms P0 P out = grind (arith, nat_tests, begins_itself)

  abbrev StepsTo : State → State → Transition → List Moment → Trace → Trace → Type 0
  StepsTo after w step ms P0 P = PastAt after (pins_of after ++ moments_of_step w step ++ ms) (begun_after after P0 (trace_after w P step)) (trace_after w P step)

  turn_past : (service : Service) (disk : Medium) (a : ℕ) (who : Option Caller) (ms : List Moment) (P0 P : Trace) → IsPast ms P0 P
      → PastAt (after_turn service disk a who) (pins_of (after_turn service disk a who) ++ unlinkings (turn_publishes service a who) ++ ms) (begun_after (after_turn service disk a who) P0 (turn_publishes service a who ++ P)) (turn_publishes service a who ++ P)
  turn_past service disk a None ms P0 P h = shown service disk ms P0 P h
  turn_past service disk a (Some caller) ms P0 P h = shown (played service a caller (line service.yard a (next_event service.yard caller))) disk
      (unlinkings (turn_publishes service a (Some caller)) ++ ms) P0 (turn_publishes service a (Some caller) ++ P)
      (past_publishing (turn_publishes service a (Some caller)) ms P0 P h)

  fault_past : (service : Service) (disk new : Medium) (a : ℕ) (who : Option Caller) (ms : List Moment) (P0 P : Trace) → IsPast ms P0 P
      → PastAt (after_fault service new a who) (pins_of (after_fault service new a who) ++ moments_of_step (Up service disk) (Fails a new) ++ ms) (begun_after (after_fault service new a who) P0 P) P
  fault_past service disk new a None ms P0 P h = shown service new ms P0 P h
  fault_past service disk new a (Some caller) ms P0 P h = shown (played service a caller (line_failed service.yard a (next_event service.yard caller))) new ms P0 P h

  step_past : (i : ℕ) (w : State) (step : Transition) (ms : List Moment) (P0 P : Trace) → MayStep w step → PastAt w ms P0 P → StepsTo (state_after i w step) w step ms P0 P
  step_past i (Up service disk) (Calls a c) ms P0 P may h = shown (record { yard = invoked service.yard a c; callers = service.callers }) disk ms P0 P h
  step_past i (Up service disk) (Turn a) ms P0 P may h = turn_past service disk a (caller_at service.callers a) ms P0 P h
  step_past i (Up service disk) (Fails a new) ms P0 P may h = fault_past service disk new a (caller_at service.callers a) ms P0 P h
  step_past i (Up service disk) (Looks a) ms P0 P may h = shown (record { yard = looked service.yard a; callers = service.callers }) disk ms P0 P h
  step_past i (Up service disk) Trips ms P0 P may h = shown service disk ms P0 P h
  step_past i (Up service disk) Opens ms P0 P may h = absurd may
  step_past i (Up service disk) (OpenFails why done) ms P0 P may h = absurd may
  step_past i (Down shape disk) Opens ms P0 P may h = shown_out (Up (opened_service shape disk.seen) disk) ms P0 (first_trace shape disk.seen) (ap is_outside (pass_of shape.passes q 0))
  step_past i (Down shape disk) (OpenFails why true) ms P0 P may h = tt
  step_past i _ _ ms P0 P may h = tt

  run_past : (start : Start) (steps : List Transition) → IsRun (first_point start) steps
      → PastAt (run (first_point start) steps).state (moments (first_point start) steps) (trace_outside (first_point start) steps q) (run (first_point start) steps).trace
  run_past start [] runs = (begins_itself _, inl (rw (pass_of {X = ℕ} start.shape.passes q 0) refl))
  run_past start (step ∷ steps) runs = grind (arith, step_past, run_past start steps runs.1)

  -- in a state in which the pass is outside
  past_out : (p : Point) (steps : List Transition) (service : Service) (disk : Medium) → (run p steps).state ≡ Up service disk → is_out (Up service disk) q ≡ true → was_outside s q (moments p steps) ≡ true
  past_out p [] service disk state out = subst (λ (w : State). was_outside s q (pins_of w) ≡ true) (sym state) (rw out refl)
  past_out p (step ∷ steps) service disk state out = grind arith

-- a slot that is collected was left by each pass
pub freed_is_all_free : FreedIsAllFree
freed_is_all_free start steps service disk s seen is runs state limbo free q low high = elim (cases_Bool (is_out (Up service disk) q)) [
  | inl out ↦ past_out s q (first_point start) steps service disk state out
  | inr in_now ↦ ⊎_elim (λ was. was) (λ since. absurd (never (grind (arith, nat_tests, in_now)) since)) there.1
]
  where
    p : Point
    p = run (first_point start) steps

    P0 : Trace
    P0 = trace_outside (first_point start) steps q

    there : IsPast s q (moments (first_point start) steps) P0 p.trace
    there = subst (λ (w : State). PastAt s q w (moments (first_point start) steps) P0 p.trace) state (run_past s q start steps runs)

    known : IsTied p.calls service disk p.trace (trace_outside (first_point start) steps)
    known = tied start steps service disk is runs state

    -- the slot that each pass has left stood on no chain since this one went in
    away : IsInside (pin_in service.yard.words.pins q) → IsAway service.yard.shape.buckets P0 p.trace s
    away inside = ⊎_elim
        (λ already. absurd (free_limbo (sym already ∙ limbo)))
        (λ left.
        let right = subst (λ (x : Sight). IsRightSight service.yard.shape.buckets (pin_in service.yard.words.pins q) (known.notes.begun q) p.trace s x) (left_of left.0 q left.2) (known.up.sound.reuse.seen q s left.0 left.1) in
        subst (λ (R : Trace). IsAway service.yard.shape.buckets R p.trace s) (known.tied q inside) (right inside))
        (collected_free (use_of service.yard.uses s) (sym (use_map collect_at service.yard.uses s refl) ∙ free))

    never : IsInside (pin_in service.yard.words.pins q) → IsUnlinkedSince s P0 p.trace → ⊥
    never inside since =
        let stood = stood_since service.yard.shape.buckets service.yard.shape.slots s P0 p.trace known.up.sound.trace.lawful since in
        away inside stood.0 stood.1

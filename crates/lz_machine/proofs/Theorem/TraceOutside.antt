-- The notes of a pass that is inside are those of the trace at which it went in.
use Rattle.std.proofs.Common.{◌≡◌, ◌⊎◌, inl, inr, ℕ, suc, ◌≤◌, ◌%◌, if◌then◌else◌, Bool, true, false, List, [], ◌∷◌, ◌++◌, length, Option, refl, sym, ap, ◌∙◌}
use Rattle.std.proofs.{Common.{subst, arith}, lemmas.Bool.{cases_eq, Decides.{nat_tests}}}
use mathlib.Core.Bool.{false≢true}
use Rattle.lz_slot.specs.Histories.{Life}
use Rattle.lz_disk.specs.Images.{Medium, at_rest, synced}
use Rattle.lz_vault.specs.{declared.vault.Stage.{Stage, TheVariants.{Closed, Closing}}, Stages.{is_covered}}
use Rattle.lz_allot.specs.Uses.{is_outside}
use Rattle.lz_list.specs.{Pinned.{Stood}, Traces.{Trace, is_marked}}
use Rattle.lz_machine.specs.{Yards.{Shape, IsInside, pin_in, stage_in}, CallsStand.{is_out, trace_outside, own_change, CallsStand, MarkedIsClosed}}
use Rattle.lz_machine.specs.Runs.{Start, IsStart, Service, State, Up, Down, Transition, Trips, Stops, Crashes, Opens, OpenFails, Point, MayStep, IsRun, run}
use Rattle.lz_machine.specs.{Runs.{first_point, point_after, caller_at, state_after, trace_after, calls_made_after, opened_service, marks_of}, Notes.{Notes}}
use Rattle.lz_machine.specs.{CallersSound.{CallerSound, view_of}, SlotsSound.{SlotStands, is_node, is_held, is_out as is_gone, is_free, is_limbo, IsNodeStage}}
use Rattle.lz_machine.{specs.{Sound.{UpSound, IsSound}, Limbo.{IsAway}}, proofs.{Runs.PointParts.{point}, Steps.Point.{NextAt, marked, up_next}}}
use Rattle.lz_machine.proofs.{Frames.{ChangeNotes.{none_beyond, none_outside}, Limbo.{shorter}, Ranges.{stood_range}}, Open.FoundSlots.{pass_of}}
use Rattle.lz_machine.proofs.Theorem.Reached.{reached_sound, up_at}

-- an open service is sound, with notes that are tied to these traces
pub record IsTied (calls : ℕ) (service : Service) (disk : Medium) (P : Trace) (B : ℕ → Trace) : Type 0 where
  pub n : ℕ
  pub life : Life
  pub notes : Notes
  pub up : UpSound n calls service disk life P notes
  pub tied : (a : ℕ) → IsInside (pin_in service.yard.words.pins a) → notes.begun a ≡ B a
  pub told : (a : ℕ) → IsInside (pin_in service.yard.words.pins a) → notes.changed a ≡ own_change a (length (B a)) P

abbrev TiedAt : ℕ → Trace → State → (ℕ → Trace) → Type 0
TiedAt calls P (Up service disk) B = IsTied calls service disk P B
TiedAt calls P (Down shape disk) B = Unit {0}

module _ (calls : ℕ) (service : Service) (disk : Medium) (P Q : Trace) (B : ℕ → Trace) (h : IsTied calls service disk P B) (out : (b : ℕ) → is_outside (pin_in service.yard.words.pins b) ≡ true → B b ≡ P) where
  went_in : (b : ℕ) → pin_in service.yard.words.pins b % 2 ≡ 0 → B b ≡ P
  went_in b even = out b (grind (arith, nat_tests, even))

  -- each pass went in at a time up to now
  within : (b : ℕ) → length (B b) ≤ length P
  within b = grind (arith, nat_tests, cases_eq, went_in, shorter)

  -- also that of a pass that is outside, which has changed nothing
  change_told : (b : ℕ) → h.notes.changed b ≡ own_change b (length (B b)) P
  change_told b = elim (cases_eq (pin_in service.yard.words.pins b % 2) 0) [
    | inl even ↦
        none_outside (view_of service.yard.shape service.yard.vault service.yard.actors b) (pin_in service.yard.words.pins b) (caller_at service.callers b) (h.notes.begun b) P (h.notes.changed b) even (h.up.sound.callers.each b).stands
        ∙ sym (none_beyond b (length (B b)) P (omega (arith, ap (λ (q : Trace). length q) (went_in b even))))
    | inr odd ↦ h.told b (omega (arith, odd))
  ]

  -- notes that go on from tied ones are tied to the trace at which each pass went in, and to its own change since
  tie : (later : ℕ) (life : Life) (w : State) → NextAt h.n later life service.yard.words.pins P h.notes w Q → TiedAt later Q w (λ b. if is_out w b then Q else B b)
  tie later life (Down shape left) next = tt
  tie later life (Up after left) next = record { n = h.n; life = life; notes = next.notes; up = next.up; tied = tied; told = told }
    where
      same : (b : ℕ) → IsInside (pin_in after.yard.words.pins b) → (if is_outside (pin_in after.yard.words.pins b) then Q else B b) ≡ B b
      same b inside = grind (arith, nat_tests)

      tied : (b : ℕ) → IsInside (pin_in after.yard.words.pins b) → next.notes.begun b ≡ (if is_outside (pin_in after.yard.words.pins b) then Q else B b)
      tied b inside = elim (cases_eq (pin_in service.yard.words.pins b % 2) 0) [
        | inl even ↦ (next.noted b inside).1 even ∙ sym (went_in b even) ∙ sym (same b inside)
        | inr odd ↦ (next.noted b inside).0 (omega (arith, odd)) ∙ h.tied b (omega (arith, odd)) ∙ sym (same b inside)
      ]

      told : (b : ℕ) → IsInside (pin_in after.yard.words.pins b) → next.notes.changed b ≡ own_change b (length (if is_outside (pin_in after.yard.words.pins b) then Q else B b)) Q
      told b inside = next.told b (length (B b)) inside (within b) (change_told b) ∙ ap (λ (R : Trace). own_change b (length R) Q) (sym (same b inside))

-- an open begins with all passes outside
opened_tied : (start : Start) (p : Point) (shape : Shape) (t : List ℕ) (disk : Medium) (B : ℕ → Trace) → IsSound start p → p.state ≡ Up (opened_service shape t) disk → TiedAt p.calls p.trace (Up (opened_service shape t) disk) B
opened_tied start p shape t disk B sound is =
    let here = up_at start p (opened_service shape t) disk sound is in
    record { n = here.n; life = here.life; notes = here.notes; up = here.up; tied = λ a inside. absurd (even a inside); told = λ a inside. absurd (even a inside) }
  where
    even : (a : ℕ) → IsInside (pin_in (opened_service shape t).yard.words.pins a) → ⊥
    even a inside = omega (arith, inside, pass_of {X = ℕ} shape.passes a 0)

step_tied : (start : Start) (w : State) (p : Point) (step : Transition) (B : ℕ → Trace) → p.state ≡ w → MayStep w step → ((b : ℕ) → is_out w b ≡ true → B b ≡ p.trace) → TiedAt p.calls p.trace w B
    → IsSound start (point_after p step)
    → TiedAt (calls_made_after p.calls step) (trace_after w p.trace step) (state_after (suc p.calls) w step) (λ b. if is_out (state_after (suc p.calls) w step) b then trace_after w p.trace step else B b)
step_tied start (Up service disk) p step B at may out h sound =
    tie p.calls service disk p.trace (trace_after (Up service disk) p.trace step) B h out (calls_made_after p.calls step) (marked h.life (marks_of (suc p.calls) (Up service disk) step)) (state_after (suc p.calls) (Up service disk) step)
    (up_next h.n p.calls service disk h.life p.trace h.notes h.up step may)
step_tied start (Down shape disk) p Opens B at may out h sound =
    opened_here (subst (λ (w : State). IsSound start (point (state_after (suc p.calls) w Opens) (marks_of (suc p.calls) w Opens ++ p.marks) (trace_after w p.trace Opens) p.calls)) at sound)
  where
    opened_here : IsSound start (point (state_after (suc p.calls) (Down shape disk) Opens) (marks_of (suc p.calls) (Down shape disk) Opens ++ p.marks) (trace_after (Down shape disk) p.trace Opens) p.calls)
        → TiedAt p.calls (trace_after (Down shape disk) p.trace Opens) (state_after (suc p.calls) (Down shape disk) Opens)
        (λ b. if is_out (state_after (suc p.calls) (Down shape disk) Opens) b then trace_after (Down shape disk) p.trace Opens else B b)
    opened_here there = opened_tied start
        (point (state_after (suc p.calls) (Down shape disk) Opens) (marks_of (suc p.calls) (Down shape disk) Opens ++ p.marks) (trace_after (Down shape disk) p.trace Opens) p.calls)
        shape disk.seen (synced disk) (λ b. if is_out (state_after (suc p.calls) (Down shape disk) Opens) b then trace_after (Down shape disk) p.trace Opens else B b) there refl
step_tied start (Down shape disk) p Trips B at may out h sound = tt
step_tied start (Down shape disk) p Stops B at may out h sound = tt
step_tied start (Down shape disk) p (Crashes t) B at may out h sound = tt
step_tied start (Down shape disk) p (OpenFails why true) B at may out h sound = tt
step_tied start (Down shape disk) p (OpenFails why false) B at may out h sound = tt
step_tied start (Down shape disk) p _ B at may out h sound = absurd may

-- where a pass is outside its trace is that of now
pub out_now : (p : Point) (steps : List Transition) (b : ℕ) → is_out (run p steps).state b ≡ true → trace_outside p steps b ≡ (run p steps).trace
out_now p [] b out = refl
out_now p (step ∷ steps) b out = ap (λ (q : Bool). if q then (run p (step ∷ steps)).trace else trace_outside p steps b) out

reached_tied : (start : Start) (steps : List Transition) → IsStart start → IsRun (first_point start) steps
    → TiedAt (run (first_point start) steps).calls (run (first_point start) steps).trace (run (first_point start) steps).state (trace_outside (first_point start) steps)
reached_tied start [] is runs = opened_tied start (first_point start) start.shape start.text (at_rest start.bytewise start.text) (trace_outside (first_point start) []) (reached_sound start [] is runs) refl
reached_tied start (step ∷ steps) is runs =
    let p = run (first_point start) steps in
    step_tied start p.state p step (trace_outside (first_point start) steps) refl runs.0 (out_now (first_point start) steps) (reached_tied start steps is runs.1) (reached_sound start (step ∷ steps) is runs)

-- what is known of an open service
module _ (start : Start) (steps : List Transition) (service : Service) (disk : Medium) (is : IsStart start) (runs : IsRun (first_point start) steps) (state : (run (first_point start) steps).state ≡ Up service disk) where
  abbrev p : Point
  p = run (first_point start) steps

  abbrev B : ℕ → Trace
  B = trace_outside (first_point start) steps

  pub tied : IsTied p.calls service disk p.trace B
  tied = subst (λ (w : State). TiedAt p.calls p.trace w B) state (reached_tied start steps is runs)

  module _ (a : ℕ) (inside : IsInside (pin_in service.yard.words.pins a)) where
    stands : CallerSound (view_of service.yard.shape service.yard.vault service.yard.actors a) (pin_in service.yard.words.pins a) (caller_at service.callers a) (B a) p.trace (own_change a (length (B a)) p.trace)
    stands =
        subst (λ (q : Option ℕ). CallerSound (view_of service.yard.shape service.yard.vault service.yard.actors a) (pin_in service.yard.words.pins a) (caller_at service.callers a) (B a) p.trace q) (tied.told a inside)
        (subst (λ (Q : Trace). CallerSound (view_of service.yard.shape service.yard.vault service.yard.actors a) (pin_in service.yard.words.pins a) (caller_at service.callers a) Q p.trace (tied.notes.changed a)) (tied.tied a inside)
        (tied.up.sound.callers.each a))

    -- a slot that stood on a chain since is no slot that may be prepared
    module _ (b s : ℕ) (stood : Stood service.yard.shape.buckets b (B a) p.trace (suc s)) (marked : is_marked s p.trace ≡ true) (sure : is_covered (stage_in service.yard.vault.cells s) ≡ true) where
      met : IsAway service.yard.shape.buckets (tied.notes.begun a) p.trace s → ⊥
      met away = subst (λ (Q : Trace). IsAway service.yard.shape.buckets Q p.trace s) (tied.tied a inside) away b stood

      written : (stage : Stage) → is_covered stage ≡ true → (stage ≡ Closing) ⊎ (stage ≡ Closed) → stage ≡ Closed
      written stage covered h = grind (arith, nat_tests, false≢true)

      by_node : IsNodeStage service.yard.vault.cells service.yard.vault.dead service.yard.actors p.trace s → stage_in service.yard.vault.cells s ≡ Closed
      by_node h = grind (arith, nat_tests, false≢true, marked, written)

      by_stand : SlotStands service.yard.shape service.yard.vault.cells service.yard.vault.dead service.yard.uses service.yard.actors p.trace s → stage_in service.yard.vault.cells s ≡ Closed
      by_stand (is_node chain stage) = by_node stage
      by_stand (is_held c slot) = absurd (met (tied.up.sound.reuse.reserved a c s slot inside))
      by_stand (is_gone c out) = (tied.up.sound.slots.out c s out).stage
      by_stand (is_free loose free stage) = absurd (met (tied.up.sound.reuse.free a s free inside))
      by_stand (is_limbo sights loose limbo stage) = stage

      closed_there : stage_in service.yard.vault.cells s ≡ Closed
      closed_there = by_stand (tied.up.sound.slots.each s (stood_range service.yard.shape.buckets service.yard.shape.slots (B a) p.trace b s tied.up.sound.trace.lawful stood))

pub calls_stand : CallsStand
calls_stand start steps service disk a is runs state inside = stands start steps service disk is runs state a inside

pub marked_is_closed : MarkedIsClosed
marked_is_closed start steps service disk a b s is runs state inside stood marked sure = closed_there start steps service disk is runs state a inside b s stood marked sure

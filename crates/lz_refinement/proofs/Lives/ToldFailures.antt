-- How many steps of the notes failed: a load is none of them, and a hold's step is one only where the device failed in it.
use Rattle.std.proofs.lemmas.Bool.Decides.{nat_tests}
use Rattle.std.proofs.Common.{◌≡◌, ◌<◌, ℕ, zero, suc, ◌+◌, ◌≤◌, List, [], ◌∷◌, ◌++◌, refl, sym, ap, ◌∙◌, arith, replicate, Option, Some, None}
use Rattle.lz_refinement.proofs.Vocabulary.{Device, Trace, Event, Outcome, failed_in, told_device, State, Up, Service, Caller, Point, Transition, Calls, Turn, Fails}
use Rattle.lz_refinement.proofs.Vocabulary.{Looks, caller_at, first_point, run, Yard, What, Note, Load, Part, Sizes, insert_load, shape_of_sizes, splice, BoardId}
use Rattle.lz_refinement.{proofs.Marks.{RunMarks.{marks_read}, RunningSet.{locked_sizes}}, specs.{Holds.{HoldNotes, IsLocked}, Lives.{faults_in, faults_with}}}
use Rattle.lz_refinement.specs.{Marks.{marks_in}, NotedRuns.{ReadsAs, TellsFault, TellsStep}}
use Rattle.lz_machine.{specs.declared.event.Outcome.TheVariants.{Fault}, proofs.Theorem.DeviceFailures.{fails_once}}
use Rattle.lz_board.{specs.declared.view.What.TheVariants.{Played}, proofs.Upkeep.Splice.{at_place}}

module _ (opened : Trace) (p : ℕ) where
  faults_insert : (h : Load) (ns : List Note) → faults_in (insert_load opened p h ns) ≡ faults_in ns
  faults_insert h [] = refl
  faults_insert h (x ∷ xs) = at_place opened (λ r. faults_in r ≡ faults_in (x ∷ xs)) p h x xs (λ _. ap (faults_with x.what) (faults_insert h xs)) (λ _. refl)

  faults_splice : (hs : List Load) (ns : List Note) → faults_in (splice opened p hs ns) ≡ faults_in ns
  faults_splice [] ns = refl
  faults_splice (h ∷ hs) ns = faults_insert h (splice opened p hs ns) ∙ faults_splice hs ns

-- after a hold's step
pub faults_held : (opened : Trace) (was is : List Note) (n : Note) (h h' : Part) → HoldNotes opened was is n h h' → faults_in is ≡ faults_with n.what (faults_in was)
faults_held opened was is n h h' holds = ap faults_in holds.notes ∙ ap (faults_with n.what) (faults_splice opened h.number h.loads was)

pub fault_counted : (e : Event) (o : Outcome) (faults : ℕ) (old new : Device) → old.faults ≤ new.faults → (o ≡ Fault → old.faults < new.faults) → faults_with (Played e o) faults + old.faults ≤ faults + new.faults
fault_counted e Fault faults old new more device = let risen = device refl in omega (arith, risen)
fault_counted e o faults old new more device = omega (arith, more)

-- the run as which notes are read
more_faults : (w : What) (faults : ℕ) → faults ≤ faults_with w faults
more_faults (Played e Fault) faults = omega arith
more_faults w faults = omega arith

fault_failed : (service : Service) (q : Option Caller) (n : Note) (faults : ℕ) → TellsFault service q n → faults_with n.what faults ≡ suc faults
fault_failed service None n faults tells = absurd tells
fault_failed service (Some caller) n faults tells = ap (λ (w : What). faults_with w faults) tells.0

step_failed : (w : State) (n : Note) (step : Transition) (before : List Transition) (faults : ℕ) → TellsStep w n step → failed_in before ≤ faults → failed_in (step ∷ before) ≤ faults_with n.what faults
step_failed (Up service disk) n (Calls a c) before faults tells past = let more = more_faults n.what faults in omega (arith, more, past)
step_failed (Up service disk) n (Turn a) before faults tells past = let more = more_faults n.what faults in omega (arith, more, past)
step_failed (Up service disk) n (Fails a new) before faults tells past = let is = fault_failed service (caller_at service.callers a) n faults tells.1 in omega (arith, is, past)
step_failed _ n _ before faults tells past = absurd tells

looks_failed : (k q : ℕ) (before : List Transition) → failed_in (replicate k (Looks q) ++ before) ≡ failed_in before
looks_failed zero q before = refl
looks_failed (suc k) q before = looks_failed k q before

failed_read : (p : Point) (ns : List Note) (steps : List Transition) → ReadsAs p ns steps → failed_in steps ≤ faults_in ns
failed_read p [] steps reads = let none = ap failed_in reads in omega (arith, none)
failed_read p (n ∷ ns) steps (new, before, is, tells, rest) = grind (arith, nat_tests, failed_in, failed_read p ns before rest, run, step_failed, looks_failed, more_faults)

-- At most one call is told that the device failed, and only where a step did.
pub failures_told : (b : BoardId) (ns : List Note) (y : Yard) (dev : Device) → IsLocked b ns y dev
    → (told_device (marks_in (shape_of_sizes b.sizes) ns) ≤ 1) × (told_device (marks_in (shape_of_sizes b.sizes) ns) ≤ faults_in ns)
failures_told b ns y dev locked =
    let tie = locked.tied in
    let all = fails_once tie.start tie.steps tie.runs in
    let shows = (marks_read tie.start ns tie.steps tie.runs tie.reads).0 ∙ ap (λ (z : Sizes). marks_in (shape_of_sizes z) ns) (sym (locked_sizes b ns y dev locked)) in
    let once = all.0 in let told = all.1 in let same = ap told_device shows in let read = failed_read (first_point tie.start) ns tie.steps tie.reads in
    (omega (arith, once, told, same), omega (arith, told, read, same))

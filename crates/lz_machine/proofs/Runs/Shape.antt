-- No step changes the shape of the table.
use Rattle.std.{proofs.{Common.{arith, ◌≡◌, ℕ, suc, List, [], ◌∷◌, refl, ◌∙◌}, lemmas.Bool.Decides.{nat_tests}}, specs.Prelude.{Option}}
use Rattle.lz_machine.specs.{declared.{event.Event.{Event}, actor.Actor.{Actor}, course.Course.{Course}}, Yards.{Yard}, Table.{line_on}}
use Rattle.lz_machine.specs.Runs.{State, Transition, Service, Caller, Point, run, state_after, shape_of, after_turn, after_fault}
use Rattle.lz_disk.specs.Images.{Medium}

pub line_keeps_shape : (c : Course) (y : Yard) (actor : Actor) (a : ℕ) (e : Event) → (line_on c y actor a e).0.shape ≡ y.shape
line_keeps_shape c y actor a e = grind (arith, nat_tests)

-- and no event the format
pub line_keeps_format : (c : Course) (y : Yard) (actor : Actor) (a : ℕ) (e : Event) → (line_on c y actor a e).0.vault.format ≡ y.vault.format
line_keeps_format c y actor a e = grind (arith, nat_tests)

turn_keeps_shape : (s : Service) (disk : Medium) (a : ℕ) (caller : Option Caller) → shape_of (after_turn s disk a caller) ≡ s.yard.shape
turn_keeps_shape s disk a caller = grind (arith, nat_tests, line_keeps_shape)

fault_keeps_shape : (s : Service) (disk : Medium) (a : ℕ) (caller : Option Caller) → shape_of (after_fault s disk a caller) ≡ s.yard.shape
fault_keeps_shape s disk a caller = grind (arith, nat_tests)

pub step_keeps_shape : (n : ℕ) (w : State) (step : Transition) → shape_of (state_after n w step) ≡ shape_of w
step_keeps_shape n w step = grind (arith, nat_tests, turn_keeps_shape, fault_keeps_shape)

pub run_keeps_shape : (p : Point) (steps : List Transition) → shape_of (run p steps).state ≡ shape_of p.state
run_keeps_shape p [] = refl
run_keeps_shape p (step ∷ steps) = step_keeps_shape (suc (run p steps).calls) (run p steps).state step ∙ run_keeps_shape p steps

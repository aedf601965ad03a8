-- What a world plays: its steps one for one, as steps of a run.
use Rattle.std.specs.Prelude.{◌≡◌, ◌⊎◌, ℕ, Bool, List, [], ◌∷◌, ◌++◌, reverse}
use Rattle.lz_slot.specs.declared.history.HistoryEvent.{HistoryEvent}
use Rattle.lz_disk.specs.{Images.{Medium}, Picks.{left_by}}
use Rattle.lz_core.specs.declared.play.Step.{Step as PlayStep, TheVariants.{Call, Turn as TurnOf, Trip, Stop, Crash, Open}}
use Rattle.lz_machine.specs.Runs.{State, disk_of, Transition, Calls, Turn, Fails, Trips, Stops, Crashes, Opens, OpenFails, Point, run, IsRun}

-- in this state a step of a play is this step of a run; what the device does is the run's
abbrev pub IsPlayOf : State → PlayStep → Transition → Type 0
IsPlayOf w (Call a c) step = step ≡ Calls a c
IsPlayOf w (TurnOf a) step = (step ≡ Turn a) ⊎ ((new : Medium) × (step ≡ Fails a new))
IsPlayOf w Trip step = step ≡ Trips
IsPlayOf w Stop step = step ≡ Stops
IsPlayOf w (Crash pick) step = step ≡ Crashes (left_by pick (disk_of w))
IsPlayOf w Open step = (step ≡ Opens) ⊎ ((why : ℕ) × (done : Bool) × (step ≡ OpenFails why done))

-- the same of lists, the newest first
abbrev pub ArePlaysOf : Point → List PlayStep → List Transition → Type 0
ArePlaysOf p [] steps = steps ≡ []
ArePlaysOf p (play ∷ plays) [] = ⊥
ArePlaysOf p (play ∷ plays) (step ∷ steps) = IsPlayOf (run p steps).state play step × ArePlaysOf p plays steps

-- From the point p these steps of a play lead to the state, and answer these marks; both lists stand oldest first.
pub record PlaysTo (p : Point) (plays : List PlayStep) (marks : List HistoryEvent) (new : State) : Type 0 where
  pub steps : List Transition
  pub one_for_one : ArePlaysOf p (reverse plays) steps
  pub runs : IsRun p steps
  pub state : (run p steps).state ≡ new
  pub all_marks : (run p steps).marks ≡ reverse marks ++ p.marks

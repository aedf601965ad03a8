-- Points that a run reaches.
use Rattle.std.specs.Prelude.{◌≡◌, ℕ, List, IsTrue, IsNone}
use Rattle.lz_allot.specs.Uses.{is_outside}
use Rattle.lz_machine.specs.{Table.{pin_of}, Runs.{Start, IsStart, first_point, State, Up, Down, Transition, caller_at, Point, run, IsRun}}

-- a point of a run from the start
pub record IsReached (start : Start) (p : Point) : Type 0 where
  pub steps : List Transition
  pub starts : IsStart start
  pub runs : IsRun (first_point start) steps
  pub point : run (first_point start) steps ≡ p

-- no look is half done: the pin word of an actor without a call is even
abbrev pub IsBetweenLooks : State → Type 0
IsBetweenLooks (Up service disk) = (a : ℕ) → IsNone (caller_at service.callers a) → IsTrue (is_outside (pin_of service.yard a))
IsBetweenLooks (Down shape disk) = Unit {0}

-- Every point that a run reaches is sound, and what that says of an open service.
use Rattle.lz_machine.proofs.Crash.Leftovers as leaving
use Rattle.lz_machine.proofs.Theorem.MovedLoad as walks
use Rattle.std.proofs.{Common.{arith, ◌≡◌, ℕ, List, [], ◌∷◌}, lemmas.Bool.Decides.{nat_tests}}
use Rattle.lz_slot.specs.Histories.{History, Life, lives}
use Rattle.lz_disk.specs.Images.{Medium}
use Rattle.lz_list.specs.Traces.{Trace}
use Rattle.lz_machine.specs.Runs.{Start, IsStart, Point, Service, start_keys, State, Up, Down, Transition, Calls, Turn, Fails, Looks, Trips, Stops, Crashes}
use Rattle.lz_machine.specs.{Runs.{CrashesIn, Opens, OpenFails, MayStep, point_after, first_point, run, IsRun}, Laws.{EveryHistory, WhatLasts, WalksMove}}
use Rattle.lz_machine.{specs.{Notes.{Notes}, Sound.{IsSound, UpSound, PointSound}}, proofs.Runs.PointParts.{point}}
use Rattle.lz_machine.proofs.{Steps.Point.{call_keeps, turn_keeps, fails_keeps, looks_keeps}, Crash.Down.{stops_keeps, crashes_keeps, open_fails_keeps}}
use Rattle.lz_machine.proofs.Open.FirstPoint.{first_sound, opens_keeps, down_seen}

-- each step keeps the invariant
step_keeps : (start : Start) → IsStart start → (w : State) (M : History) (P : Trace) (calls : ℕ) (step : Transition) → IsSound start (point w M P calls) → MayStep w step → IsSound start (point_after (point w M P calls) step)
step_keeps start is (Up service disk) M P calls (Calls a c) sound may = call_keeps start service disk M P calls sound a c may
step_keeps start is (Up service disk) M P calls (Turn a) sound may = turn_keeps start service disk M P calls sound a may
step_keeps start is (Up service disk) M P calls (Fails a new) sound may = fails_keeps start service disk M P calls sound a new may
step_keeps start is (Up service disk) M P calls (Looks a) sound may = looks_keeps start service disk M P calls sound a may
step_keeps start is (Up service disk) M P calls Trips sound may = sound
step_keeps start is w M P calls Stops sound may = stops_keeps start w M P calls sound may
step_keeps start is w M P calls (Crashes t) sound may = crashes_keeps start w M P calls t sound may
step_keeps start is w M P calls (CrashesIn a t) sound may = leaving.crash_in_keeps start w M P calls a t sound may
step_keeps start is w M P calls (OpenFails why done) sound may = open_fails_keeps start w M P calls why done sound may
step_keeps start is (Down shape disk) M P calls Trips sound may = sound
step_keeps start is (Down shape disk) M P calls Opens sound may = opens_keeps start shape disk M P calls is (down_seen start shape disk M P calls sound) sound may
step_keeps start is _ _ _ calls _ sound may = absurd may

-- the main induction
pub reached_sound : (start : Start) (steps : List Transition) → IsStart start → IsRun (first_point start) steps → IsSound start (run (first_point start) steps)
reached_sound start [] is runs = first_sound start is is.bytes
reached_sound start (step ∷ steps) is runs =
    let before = run (first_point start) steps in
    step_keeps start is before.state before.marks before.trace before.calls step (reached_sound start steps is runs.1) runs.0

-- what the invariant says of an open service at a point
pub record IsUpAt (calls : ℕ) (service : Service) (disk : Medium) (P : Trace) : Type 0 where
  pub n : ℕ
  pub life : Life
  pub notes : Notes
  pub up : UpSound n calls service disk life P notes

pub up_at : (start : Start) (p : Point) (service : Service) (disk : Medium) → IsSound start p → p.state ≡ Up service disk → IsUpAt p.calls service disk p.trace
up_at start p service disk sound is = go (lives (start_keys start) p.marks) sound
  where
    go : (L : List Life) → PointSound start p L → IsUpAt p.calls service disk p.trace
    go [] h = absurd h
    go (life ∷ earlier) h = grind (arith, nat_tests)

pub every_history : EveryHistory
every_history = leaving.every_history reached_sound

pub what_lasts : WhatLasts
what_lasts = leaving.what_lasts reached_sound

pub walks_move : WalksMove
walks_move = walks.walks_move reached_sound

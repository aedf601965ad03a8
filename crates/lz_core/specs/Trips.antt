-- Where a device fails that may be tripped.
use Rattle.std.specs.Prelude.{◌≡◌, ◌↔◌, ℕ, Bool, true, false, IsTrue, IsSomeAnd, List, [], ◌∷◌}
use Rattle.lz_vault.specs.{Vaults.{IsDeviceCalled}, Opens.{open_fault_number}, declared.opening.OpenFault.TheVariants.{Device}}
use Rattle.lz_machine.specs.Table.{line_call}
use Rattle.lz_machine.specs.Runs.{State, Up, Down, Transition, Calls, Turn, Fails, Looks, Trips, Opens, OpenFails, Point, caller_at, next_event, run}

-- an actor's next event calls the device
abbrev pub CallsDevice : State → ℕ → Type 0
CallsDevice (Up service disk) a = IsSomeAnd (caller_at service.callers a) (λ caller. IsDeviceCalled (line_call service.yard a (next_event service.yard caller)))
CallsDevice (Down shape disk) a = ⊥

-- In a step the device fails where it is called and was tripped, and nowhere else.
abbrev pub GoesAsTripped : State → Bool → Transition → Type 0
GoesAsTripped w tripped (Turn a) = IsTrue tripped → ¬ CallsDevice w a
GoesAsTripped w tripped (Fails a new) = IsTrue tripped
GoesAsTripped w tripped Opens = ¬ IsTrue tripped
GoesAsTripped w tripped (OpenFails why done) = (why ≡ open_fault_number Device) ↔ IsTrue tripped
GoesAsTripped w tripped _ = Unit {0}

-- whether the next device call fails, after a step: a trip lasts until a call fails, or a stop, a crash or an open
abbrev pub tripped_after : Bool → Transition → Bool
tripped_after tripped (Calls a c) = tripped
tripped_after tripped (Turn a) = tripped
tripped_after tripped (Looks a) = tripped
tripped_after tripped Trips = true
tripped_after tripped _ = false

-- the same after many, the newest first
abbrev pub tripped_by : Bool → List Transition → Bool
tripped_by tripped [] = tripped
tripped_by tripped (step ∷ steps) = tripped_after (tripped_by tripped steps) step

abbrev pub GoAsTripped : Point → Bool → List Transition → Type 0
GoAsTripped p tripped [] = Unit {0}
GoAsTripped p tripped (step ∷ steps) = GoesAsTripped (run p steps).state (tripped_by tripped steps) step × GoAsTripped p tripped steps

-- a step in which the device fails
abbrev pub IsFailure : Transition → Type 0
IsFailure (Fails a new) = Unit {0}
IsFailure (OpenFails why done) = why ≡ open_fault_number Device
IsFailure _ = ⊥

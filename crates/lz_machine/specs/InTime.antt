-- No caller is refused as NotNow.
use Rattle.std.specs.Prelude.{◌≡◌, ◌≢◌, ℕ, Some}
use Rattle.lz_slot.specs.Histories.{History}
use Rattle.lz_disk.specs.Images.{Medium}
use Rattle.lz_list.specs.Traces.{Trace}
use Rattle.lz_machine.specs.{declared.event.Outcome.TheVariants.{NotNow}, Table.{line}, Runs.{Start, Service, Caller, Up, Reached, caller_at, next_event}}

-- In each state that is reached each caller's next event is played, or refused otherwise than as NotNow.
abbrev pub NeverLate : Type 0
NeverLate =
    (start : Start) (service : Service) (disk : Medium) (M : History) (P : Trace) (a : ℕ) (caller : Caller)
    → Reached start (Up service disk) M P → caller_at service.callers a ≡ Some caller
    → (line service.yard a (next_event service.yard caller)).1 ≢ NotNow

-- What is known of the next event of a call, in each state that is reached.
use Rattle.std.specs.Prelude.{◌≡◌, ℕ, Some}
use Rattle.lz_slot.specs.Histories.{History}
use Rattle.lz_disk.specs.Images.{Medium}
use Rattle.lz_list.specs.Traces.{Trace}
use Rattle.lz_machine.specs.{Orders.{MayTake}, Ready.{IsEventOf}, Runs.{Start, Service, Caller, Up, Reached, IsActor, IsNext, caller_at, next_event}}
use Rattle.lz_machine.specs.Table.{line}

-- The actor is one of the service's, its event is one of the yard's and its next one, and its call may take what it gives.
pub record IsKnown (service : Service) (a : ℕ) (caller : Caller) : Type 0 where
  pub actor : IsActor service a
  pub event : IsEventOf service.yard (next_event service.yard caller)
  pub next : IsNext service a (next_event service.yard caller)
  pub takes : MayTake caller.progress (line service.yard a (next_event service.yard caller)).1

abbrev pub NextIsKnown : Type 0
NextIsKnown =
    (start : Start) (service : Service) (disk : Medium) (M : History) (P : Trace) (a : ℕ) (caller : Caller)
    → Reached start (Up service disk) M P → caller_at service.callers a ≡ Some caller → IsKnown service a caller

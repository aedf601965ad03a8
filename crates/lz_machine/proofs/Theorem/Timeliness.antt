-- A caller's next event comes in time: it is an event of its yard, it has what it needs, and its caller may take what it gives.
use Rattle.std.proofs.Common.{◌≡◌, ◌≢◌, ℕ, List, Some, refl, subst}
use Rattle.lz_disk.specs.Images.{Medium}
use Rattle.lz_machine.specs.declared.{event.{Outcome.TheVariants.{NotNow}, Reply.TheVariants.{Worn as SaysWorn}}, caller.Progress.TheVariants.{Answering}}
use Rattle.lz_machine.specs.{Table.{last_pin, pin_of, line}, Orders.{MayTake}}
use Rattle.lz_machine.specs.{Runs.{Start, Up, Transition, Point, Service, Caller, caller_at, next_event, first_point, run, IsRun, IsStart}, InTime.{NeverLate}}
use Rattle.lz_machine.{specs.{CallersSound.{view_of, CallerSound, IsSide}, Sound.{IsSound}, Ready.{IsEventOf}}, proofs.Frames.OneActor.{mine}}
use Rattle.lz_machine.proofs.{Runs.EventRange.{asks}, Theorem.{Reached.{reached_sound, IsUpAt, up_at}, EventNeeds.{has_needs, takes, timely}}}

-- At a sound point: what a caller's next event is, has and gives.
module _ (start : Start) (p : Point) (service : Service) (disk : Medium) (sound : IsSound start p) (is : p.state ≡ Up service disk) where
  here : IsUpAt p.calls service disk p.trace
  here = up_at start p service disk sound is

  module _ (a : ℕ) (caller : Caller) (at : caller_at service.callers a ≡ Some caller) where
    own : CallerSound (view_of service.yard.shape service.yard.vault service.yard.actors a) (pin_of service.yard a) (Some caller) (here.notes.begun a) p.trace (here.notes.changed a)
    own = mine service.yard.shape service.yard.vault service.yard.words.pins service.yard.actors service.callers p.trace here.notes a caller at here.up.sound.callers

    -- it is one of the yard's
    pub is_event_there : IsEventOf service.yard (next_event service.yard caller)
    is_event_there = asks here.n p.calls service.yard service.callers disk here.life.history p.trace here.notes here.up.sound service.yard.words refl refl refl a caller.command caller.progress own.stands.2

    -- it comes in time
    pub in_time_there : (line service.yard a (next_event service.yard caller)).1 ≢ NotNow
    in_time_there =
        timely service.yard a (next_event service.yard caller) (has_needs here.n p.calls service.yard service.callers disk here.life.history p.trace here.notes here.up.sound a caller.command caller.progress own.stands.0 own.stands.2)

    -- where its pass is worn, it has the last pin
    pub worn_there : caller.progress ≡ Answering SaysWorn → pin_of service.yard a ≡ last_pin
    worn_there is = subst (IsSide (pin_of service.yard a)) is own.stands.0

    -- its caller may take what it gives
    pub may_take_there : MayTake caller.progress (line service.yard a (next_event service.yard caller)).1
    may_take_there = takes here.n p.calls service.yard service.callers disk here.life.history p.trace here.notes here.up.sound a caller.command caller.progress own.stands.2

-- at a point that a run reaches
pub in_time_reached : (start : Start) (steps : List Transition) → IsStart start → IsRun (first_point start) steps → (service : Service) (disk : Medium) → (run (first_point start) steps).state ≡ Up service disk
    → (a : ℕ) (caller : Caller) → caller_at service.callers a ≡ Some caller → (line service.yard a (next_event service.yard caller)).1 ≢ NotNow
in_time_reached start steps is runs service disk state a caller at = in_time_there start (run (first_point start) steps) service disk (reached_sound start steps is runs) state a caller at

pub never_late : NeverLate
never_late start service disk M P a caller reached at = in_time_reached start reached.steps reached.starts reached.runs service disk reached.state a caller at

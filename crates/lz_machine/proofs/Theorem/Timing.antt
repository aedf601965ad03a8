-- What is known of the next event of an open call, at a point that is reached.
use Rattle.std.proofs.Common.{◌≡◌, ◌≢◌, ℕ, Some, ap, ◌∙◌, subst}
use Rattle.lz_disk.specs.Images.{Medium}
use Rattle.lz_machine.specs.{declared.event.Outcome.TheVariants.{NotNow}, Table.{line}, Ready.{IsEventOf}, Orders.{MayTake}}
use Rattle.lz_machine.specs.{Runs.{Start, Service, Caller, Up, Point, caller_at, next_event}, Points.{IsReached}, Sound.{IsSound}}
use Rattle.lz_machine.proofs.Theorem.{Reached.{reached_sound}, Timeliness.{is_event_there, in_time_reached, may_take_there}}

module _ (start : Start) (p : Point) (reached : IsReached start p) where
  sound_at : IsSound start p
  sound_at = subst (λ (q : Point). IsSound start q) reached.point (reached_sound start reached.steps reached.starts reached.runs)

  module _ (service : Service) (disk : Medium) (up : p.state ≡ Up service disk) (a : ℕ) (caller : Caller) (at : caller_at service.callers a ≡ Some caller) where
    -- its slots, words and passes are the yard's
    pub is_event : IsEventOf service.yard (next_event service.yard caller)
    is_event = is_event_there start p service disk sound_at up a caller at

    -- it has what it needs
    pub in_time : (line service.yard a (next_event service.yard caller)).1 ≢ NotNow
    in_time = in_time_reached start reached.steps reached.starts reached.runs service disk (ap (λ (q : Point). q.state) reached.point ∙ up) a caller at

    -- a link by which its walk goes on leads to a slot
    pub may_take : MayTake caller.progress (line service.yard a (next_event service.yard caller)).1
    may_take = may_take_there start p service disk sound_at up a caller at

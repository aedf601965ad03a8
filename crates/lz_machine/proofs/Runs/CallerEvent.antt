-- The next event of a call is its actor's next event.
use Rattle.std.proofs.Common.{◌≡◌, ℕ, Some, refl, subst, arith}
use Rattle.lz_machine.specs.{declared.event.Event.{Event}, Runs.{IsNext, Caller, Service, caller_at, next_event, run, first_point}, NextEvents.{NextIsKnown}}
use Rattle.lz_machine.proofs.{Frames.OneActor.{caller_range}, Theorem.{Reached.{reached_sound, up_at}, Timeliness.{is_event_there, may_take_there}}}

-- the caller whose next event this is
pub record Next (service : Service) (a : ℕ) (e : Event) : Type 0 where
  pub caller : Caller
  pub at : caller_at service.callers a ≡ Some caller
  pub event : next_event service.yard caller ≡ e

pub is_next_at : (service : Service) (a : ℕ) (caller : Caller) → caller_at service.callers a ≡ Some caller → IsNext service a (next_event service.yard caller)
is_next_at service a caller at = grind arith

pub is_next : (service : Service) (a : ℕ) (e : Event) → Next service a e → IsNext service a e
is_next service a e next = subst (IsNext service a) next.event (is_next_at service a next.caller next.at)

-- What is known of it at each point that is reached.
pub next_is_known : NextIsKnown
next_is_known start service disk M P a caller reached at =
    let p = run (first_point start) reached.steps in
    let sound = reached_sound start reached.steps reached.starts reached.runs in
    let here = up_at start p service disk sound reached.state in
    let range = caller_range service.callers a caller at in
    record {
      actor = (range.0, omega (arith, range.1, here.up.sound.callers.count));
      event = is_event_there start p service disk sound reached.state a caller at;
      next = is_next service a (next_event service.yard caller) (record { caller = caller; at = at; event = refl });
      takes = may_take_there start p service disk sound reached.state a caller at;
    }

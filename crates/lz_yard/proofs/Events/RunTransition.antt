-- A call's next event, played on a yard over any device, as a step of a run.
use Rattle.std.proofs.{Common.{◌≡◌, ◌≢◌, ◌≤◌, length, IsTrue, ℕ, Bool, true, false, Option, Some, refl, sym, ◌∙◌, subst, arith}, lemmas.Bool.{false≢true}}
use Rattle.std.proofs.lemmas.Bool.Decides.{nat_tests}
use Rattle.lz_slot.specs.Counted.{set_of_pass}
use Rattle.lz_disk.specs.{Images.{Medium}, Devices.{Device}}
use Rattle.lz_vault.specs.Vaults.{DeviceCall, NoCall, MayFail, medium_after}
use Rattle.lz_machine.specs.{declared.event.Outcome.{Outcome, TheVariants.{Fault}}, Yards.{Shape, Yard}, Table.{line_call}, Calls.{progress_after}}
use Rattle.lz_machine.specs.{Points.{IsReached}, Runs.{Start, Caller, Service, State, Up, Transition, Turn, Fails, MayStep, HasTurn, HasFault, MayPlay, Point}}
use Rattle.lz_machine.{specs.Runs.{caller_at, next_event, reply_at, moved_on, played, state_after}, proofs.Frames.OneActor.{caller_range}}
use Rattle.lz_machine.proofs.{Runs.{CallerEvent.{is_next}, ReachedPoint.{as_reached}}, Theorem.Timing.{in_time}}
use Rattle.lz_yard.specs.Steps.{Played}

-- the call after its next event had this outcome
abbrev pub moved : Shape → Caller → Outcome → Option Caller
moved shape caller o = moved_on (reply_at caller.progress) caller (progress_after shape caller.command caller.progress o)

-- the service after a caller's event gave this yard and outcome
abbrev pub after_it : Service → ℕ → Caller → Yard → Outcome → Service
after_it service a caller yard o = record { yard = yard; callers = set_of_pass service.callers a (moved yard.shape caller o) }

-- This step of a run leads to this service; its disk is the device's, where that is honest.
pub record Steps (w : State) (step : Transition) (next : Service) (after : Device) : Type 0 where
  pub may : MayStep w step
  pub medium : Medium
  pub to : (n : ℕ) → state_after n w step ≡ Up next medium
  pub device : IsTrue after.honest → after.medium ≡ medium

as_played : (service : Service) (a : ℕ) (caller : Caller) (yard : Yard) (o : Outcome) (l : Yard × Outcome) → yard ≡ l.0 → o ≡ l.1 → played service a caller l ≡ after_it service a caller yard o
as_played service a caller yard o l same_yard same_outcome = grind arith

-- a device call that failed may have changed nothing
may_fail : (call : DeviceCall) (disk : Medium) → call ≢ NoCall → MayFail call disk disk
may_fail call disk asked = grind arith

module _ (start : Start) (p : Point) (reached : IsReached start p) (service : Service) (medium : Medium) (up : p.state ≡ Up service medium) (a : ℕ) (caller : Caller) (at : caller_at service.callers a ≡ Some caller) where
  pub may_play : (honest : Bool) (disk : Medium) → (IsTrue honest → disk ≡ medium) → MayPlay service.yard honest disk a (next_event service.yard caller)
  may_play honest disk same = record {
    start = start;
    service = service;
    medium = medium;
    history = p.marks;
    trace = p.trace;
    reached = as_reached start p (Up service medium) reached up;
    next = is_next service a (next_event service.yard caller) (record { caller = caller; at = at; event = refl });
    yard = record { shape = refl; heads = refl; links = refl; keys = refl; halt = refl; pin = refl; locks = refl; vault = refl; uses = refl; actors = refl };
    device = same;
  }

  pub in_range : (1 ≤ a) × (a ≤ length service.callers)
  in_range = caller_range service.callers a caller at

  pub done : (before after : Device) (new : Yard) (outcome : Outcome) (changed : _) → (IsTrue before.honest → before.medium ≡ medium) → outcome ≢ Fault
      → Played service.yard a (next_event service.yard caller) outcome new changed before after → Steps (Up service medium) (Turn a) (after_it service a caller new outcome) after
  done before after new outcome changed same other event =
      let e = next_event service.yard caller in
      let h = event.done other in
      record {
        may = subst (HasTurn service a) (sym at) (in_time start p reached service medium up a caller at);
        medium = medium_after (line_call service.yard a e) medium;
        to = grind (arith, nat_tests, as_played);
        device = grind (arith, nat_tests);
      }

  failed_to : (before after : Device) (new : Yard) (outcome : Outcome) (changed : _) (left : Medium) → outcome ≡ Fault → MayFail (line_call service.yard a (next_event service.yard caller)) medium left
      → (IsTrue after.honest → after.medium ≡ left)
      → Played service.yard a (next_event service.yard caller) outcome new changed before after → Steps (Up service medium) (Fails a left) (after_it service a caller new outcome) after
  failed_to before after new outcome changed left fault fails there event =
      let e = next_event service.yard caller in
      record {
        may = subst (λ (o : Option Caller). HasFault service medium a o left) (sym at) fails;
        medium = left;
        to = grind (arith, nat_tests, as_played);
        device = there;
      }

  -- a device that isn't honest may do what it likes: in the run it changed nothing
  pub failed : (before after : Device) (new : Yard) (outcome : Outcome) (changed : _) → (IsTrue before.honest → before.medium ≡ medium) → outcome ≡ Fault
      → Played service.yard a (next_event service.yard caller) outcome new changed before after → (honest : Bool) → before.honest ≡ honest
      → (left : Medium) × Steps (Up service medium) (Fails a left) (after_it service a caller new outcome) after
  failed before after new outcome changed same fault event true is =
      let h = event.failed fault in (
        after.medium,
        failed_to before after new outcome changed after.medium fault
            (subst (λ (m : Medium). MayFail (line_call service.yard a (next_event service.yard caller)) m after.medium) (same is) (h.call.medium is)) (λ honest. refl) event,
      )
  failed before after new outcome changed same fault event false is =
      let h = event.failed fault in (
        medium,
        failed_to before after new outcome changed medium fault (may_fail (line_call service.yard a (next_event service.yard caller)) medium h.asked)
            (λ honest. absurd (false≢true (sym is ∙ sym h.call.honest ∙ honest))) event,
      )

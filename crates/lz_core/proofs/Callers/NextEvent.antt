-- The next event of an actor's call in a world with an open yard may be played.
use Rattle.lz_yard.proofs.Events.RunTransition as transition
use Rattle.std.proofs.Common.{◌≡◌, ◌≤◌, ◌-◌, length, unwrap_or, ℕ, suc, Bool, true, false, map, slice_index_or, List, Option, Some, None, is_some, refl, sym}
use Rattle.std.proofs.{Common.{◌∙◌, ap, subst}, lemmas.{Bool.{false≢true}, List.{length-map}}}
use Rattle.lz_slot.specs.{declared.history.HistoryEvent.{HistoryEvent}, Counted.{of_pass}}
use Rattle.lz_disk.specs.{Images.{Medium}, Records.{Past, after}}
use Rattle.lz_machine.specs.{declared.event.Event.{Event, TheVariants.{Check}}, Yards.{Shape}, Ready.{IsEventOf}}
use Rattle.lz_machine.specs.{Runs.{Transition, Caller, Service, State, Up, MayPlay, caller_at, state_after}, Points.{IsBetweenLooks}}
use Rattle.lz_machine.proofs.{Runs.CallerEvent.{Next}, Theorem.{Timing.{is_event}, BetweenLooks.{is_look, quiet_step}}}
use Rattle.lz_core.specs.declared.{play.Step.{Step as PlayStep}, open_calls.OpenCall.{OpenCall}}
use Rattle.lz_core.specs.Worlds.{WorldOver, Goes, HasRun, IsCallOn, IsWorld, MayStepOn, armed, call_shown, next_of, next_of_caller, state_shown}
use Rattle.lz_core.proofs.{Runs.PlayedStep.{shape_is}, Callers.ShownCallers.{asked_shown, get_at, of_at, of_set}}
use Rattle.lz_yard.{specs.Parts.{YardOver}, proofs.Events.RunTransition.{may_play}}

next_by : (service : Service) (a : ℕ) (o : Option Caller) (e : Event) → caller_at service.callers a ≡ o → next_of_caller service o ≡ Some e → Next service a e
next_by service a None e at next = absurd (false≢true (ap is_some next))
next_by service a (Some caller) e at next = record { caller = caller; at = at; event = ap (λ (o : Option Event). unwrap_or o Check) next }

pub next_is : (service : Service) (disk : Medium) (a : ℕ) (e : Event) → next_of (Up service disk) a ≡ Some e → Next service a e
next_is service disk a e next = next_by service a (caller_at service.callers a) e refl next

-- a world with an open service, one of whose calls has this next event
module _ (shape : Shape) (over : YardOver Past) (disk : Option Past) (callers : List (Option OpenCall)) (calls a : ℕ) (world : IsWorld shape (Some over) disk callers calls) (e : Event) (is : next_of (state_shown shape (Some over) disk callers) a ≡ Some e) where
  abbrev pub service : Service
  service = record { yard = over.yard; callers = map call_shown callers }

  abbrev pub medium : Medium
  medium = after over.disk.bytewise over.disk.start over.disk.records

  pub next : Next service a e
  next = next_is service medium a e is

  pub range : (1 ≤ a) × (a ≤ length (map call_shown callers))
  range = transition.in_range world.ran.start world.ran.point world.ran.reached service medium world.ran.at.state a next.caller next.at

  pub in_range : (1 ≤ a) × (a ≤ shape.passes)
  in_range = (range.0, subst (λ (n : ℕ). a ≤ n) (length-map callers call_shown ∙ world.count) range.1)

  pub same_shape : over.yard.shape ≡ shape
  same_shape = shape_is shape (Up service medium) calls world.ran

  pub may_step_on : (tripped : Bool) → MayStepOn (record over { disk = armed tripped over.disk }) a e
  may_step_on tripped = record {
    actor = subst (λ (s : Shape). (1 ≤ a) × (a ≤ s.passes)) (sym same_shape) in_range;
    event = subst (IsEventOf over.yard) next.event (is_event world.ran.start world.ran.point world.ran.reached service medium world.ran.at.state a next.caller next.at);
    plays = λ has. subst (MayPlay over.yard true medium a) next.event (transition.may_play world.ran.start world.ran.point world.ran.reached service medium world.ran.at.state a next.caller next.at true medium (λ honest. refl));
  }

-- where no look was half done, none is after a step of a play
pub quiet_goes : (shape : Shape) (old new : WorldOver) (play : PlayStep) (step : Transition) (marks : List HistoryEvent) → HasRun shape old.state old.calls → Goes old play step marks new → is_look step ≡ false → IsBetweenLooks new.state
quiet_goes shape old new play step marks ran goes other =
    subst IsBetweenLooks (ap (λ (w : State). state_after (suc old.calls) w step) ran.at.state ∙ goes.to)
    (quiet_step ran.start ran.point ran.reached (suc old.calls) step (rw ran.at.state goes.may) other (rw ran.at.state ran.quiet))

pub called_on : (shape : Shape) (over : YardOver Past) (disk : Option Past) (callers : List (Option OpenCall)) (calls a : ℕ) (world : IsWorld shape (Some over) disk callers calls) (e : Event) (is : next_of (state_shown shape (Some over) disk callers) a ≡ Some e)
    → IsCallOn shape (slice_index_or callers (a - 1) None)
called_on shape over disk callers calls a world e is =
    let asks = next shape over disk callers calls a world e is in
    let own = of_set (of_pass callers a None) asks.caller (sym (asked_shown callers a) ∙ asks.at) in
    let there = sym (of_at callers a (in_range shape over disk callers calls a world e is).0) ∙ own.1 in
    subst (IsCallOn shape) (sym there) (world.on_it (a - 1) (Some own.0) (get_at callers (a - 1) own.0 there))

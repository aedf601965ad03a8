-- A world, with an open service or without, goes on by an actor's next event: one that has such an event has a service.
use Rattle.std.proofs.{lemmas.{Bool.{false≢true, Decides.{nat_tests}}, List.{length-map, get_or-set_same}}, Common.{◌≡◌, ◌≤◌, ◌<◌, ◌-◌, arith, length, IsSome}}
use Rattle.std.proofs.Common.{IfSome, ℕ, zero, suc, Bool, map, slice_index_or, slice_set, List, [], ◌∷◌, Option, Some, None, is_some, sym, ◌∙◌, ap, subst}
use Rattle.lz_slot.specs.declared.history.HistoryEvent.{HistoryEvent}
use Rattle.lz_disk.specs.Records.{Past}
use Rattle.lz_machine.specs.{declared.event.{Event.{Event}, Outcome.{Outcome}}, Yards.{Shape}, Orders.{MayTake}, Runs.{marks_of_turn}}
use Rattle.lz_core.specs.{declared.{play.Step.TheVariants.{Turn as TurnOf}, open_calls.OpenCall.{OpenCall}}, Worlds.{TakesTurn, HasOne, IsCallOn, IsLawful}}
use Rattle.lz_core.specs.Worlds.{IsOutcome, IsWorld, MayStepOn, StepsOn, armed_yard, call_shown, call_after, mark_list, next_of, state_shown, world_shown}
use Rattle.lz_core.proofs.Callers.{ShownCallers.{shown_caller}, NextEvent.{called_on, in_range, may_step_on, next_is, range}}
use Rattle.lz_core.proofs.Callers.Turn.{takes_on, turn_taken, world_on}
use Rattle.lz_yard.{specs.Parts.{YardOver}, proofs.Events.KeptFit.{fault_or_not}}

module _ (shape : Shape) (disk : Option Past) (callers : List (Option OpenCall)) (calls a : ℕ) (tripped : Bool) (e : Event) where
  no_next : IsWorld shape None disk callers calls → next_of (state_shown shape None disk callers) a ≡ Some e → ⊥
  no_next world is = grind (arith, nat_tests, false≢true, is_some)

  ranged_at : (over : YardOver Past) (world : IsWorld shape (Some over) disk callers calls) → next_of (state_shown shape (Some over) disk callers) a ≡ Some e → a - 1 < length callers
  ranged_at over world is =
      let range = range shape over disk callers calls a world e is in
      let count : length (map call_shown callers) ≡ length callers = length-map callers call_shown in
      omega (arith, range.0, range.1, count)

  pub ranged : (yard : Option (YardOver Past)) → IsWorld shape yard disk callers calls → next_of (state_shown shape yard disk callers) a ≡ Some e → a - 1 < length callers
  ranged None world is = absurd (no_next world is)
  ranged (Some over) world is = ranged_at over world is

  pub may_on : (yard : Option (YardOver Past)) → IsWorld shape yard disk callers calls → next_of (state_shown shape yard disk callers) a ≡ Some e → IfSome (armed_yard tripped yard) (λ over. MayStepOn over a e)
  may_on None world is = absurd (no_next world is)
  may_on (Some over) world is = may_step_on shape over disk callers calls a world e is tripped

  pub takes : (yard yard' : Option (YardOver Past)) (outcome : Outcome) → IsWorld shape yard disk callers calls → next_of (state_shown shape yard disk callers) a ≡ Some e → StepsOn (armed_yard tripped yard) a e outcome yard'
      → IfSome (slice_index_or callers (a - 1) None) (λ under_way. MayTake under_way.caller.progress outcome)
  takes None yard' outcome world is steps = absurd (no_next world is)
  takes (Some over) None outcome world is steps = absurd steps
  takes (Some over) (Some over') outcome world is steps = takes_on shape over disk callers calls a world e is tripped over' outcome steps.0 steps.1

  pub kept : (yard yard' : Option (YardOver Past)) (outcome : Outcome) (call' : Option OpenCall) → IsWorld shape yard disk callers calls → next_of (state_shown shape yard disk callers) a ≡ Some e → StepsOn (armed_yard tripped yard) a e outcome yard'
      → call_shown call' ≡ call_after (slice_index_or callers (a - 1) None) outcome
      → (IsCallOn shape (slice_index_or callers (a - 1) None) → IsCallOn shape call')
      → IsWorld shape yard' disk (slice_set callers (a - 1) call') calls
  kept None yard' outcome call' world is steps shown on = absurd (no_next world is)
  kept (Some over) None outcome call' world is steps shown on = absurd steps
  kept (Some over) (Some over') outcome call' world is steps shown on = world_on shape over disk callers calls a world e is tripped over' outcome call' steps.0 steps.1 shown (on (called_on shape over disk callers calls a world e is)) (has_one disk world.one)
    where
      has_one : (d : Option Past) → HasOne (Some over) d → HasOne (Some over') d
      has_one None one = tt
      has_one (Some past) one = one

  pub tells : (yard yard' : Option (YardOver Past)) (outcome : Outcome) (call' : Option OpenCall) (mark : Option HistoryEvent) → IsWorld shape yard disk callers calls → next_of (state_shown shape yard disk callers) a ≡ Some e → StepsOn (armed_yard tripped yard) a e outcome yard'
      → call_shown call' ≡ call_after (slice_index_or callers (a - 1) None) outcome
      → mark_list mark ≡ marks_of_turn (call_shown (slice_index_or callers (a - 1) None))
      → TakesTurn (world_shown shape yard disk callers calls tripped) a outcome (mark_list mark) (world_shown shape yard' disk (slice_set callers (a - 1) call') calls tripped)
  tells None yard' outcome call' mark world is steps shown told = absurd (no_next world is)
  tells (Some over) None outcome call' mark world is steps shown told = absurd steps
  tells (Some over) (Some over') outcome call' mark world is steps shown told = turn_taken shape over disk callers calls a world e is tripped over' outcome call' steps.0 steps.1 shown mark told

  open_here : (over : YardOver Past) (world : IsWorld shape (Some over) disk callers calls) → next_of (state_shown shape (Some over) disk callers) a ≡ Some e → (1 ≤ a) × IsSome (call_shown (slice_index_or callers (a - 1) None))
  open_here over world is = grind (arith, in_range, shown_caller, is_some, next_is)

  -- a call that goes on has another turn
  pub turns_on : (yard yard' : Option (YardOver Past)) (outcome : Outcome) (call' : Option OpenCall) → IsWorld shape yard disk callers calls → next_of (state_shown shape yard disk callers) a ≡ Some e → StepsOn (armed_yard tripped yard) a e outcome yard'
      → (IsSome (call_shown (slice_index_or callers (a - 1) None)) → IsSome (call_shown call'))
      → IsLawful (state_shown shape yard' disk (slice_set callers (a - 1) call')) (TurnOf a)
  turns_on None yard' outcome call' world is steps on = absurd (no_next world is)
  turns_on (Some over) None outcome call' world is steps on = absurd steps
  turns_on (Some over) (Some over') outcome call' world is steps on =
      let own = open_here over world is in
      let at = shown_caller (slice_set callers (a - 1) call') a own.0 ∙ ap call_shown (get_or-set_same callers (a - 1) call' None (ranged_at over world is)) in
      subst IsSome (sym at) (on own.1)

  -- what an event's outcome tells of the yard after it
  pub tells_outcome : (yard yard' : Option (YardOver Past)) (outcome : Outcome) (callers' : List (Option OpenCall)) → IsWorld shape yard disk callers calls → next_of (state_shown shape yard disk callers) a ≡ Some e → StepsOn (armed_yard tripped yard) a e outcome yard'
      → IsOutcome (state_shown shape yard disk callers) a e outcome (state_shown shape yard' disk callers')
  tells_outcome None yard' outcome callers' world is steps = absurd (no_next world is)
  tells_outcome (Some over) None outcome callers' world is steps = absurd steps
  tells_outcome (Some over) (Some over') outcome callers' world is steps = grind (arith, nat_tests, fault_or_not)

-- a place that is there, whatever stands for one that isn't
pub taken_at : {X : Type 0} (xs : List X) (i : ℕ) (x d : X) → i < length xs → x ≡ slice_index_or xs i x → x ≡ slice_index_or xs i d
taken_at [] i x d within at = elim within [ ]
taken_at (y ∷ ys) zero x d within at = at
taken_at (y ∷ ys) (suc i) x d within at = taken_at ys i x d (omega (arith, within)) at

-- A world goes on by an actor's next event.
use Rattle.lz_machine.specs.declared.event.Reply.TheVariants as replies
use Rattle.std.proofs.Common.{arith, ◌≡◌, ◌≢◌, inl, inr, ◌≤◌, ◌-◌, IfSome, IsTrue, ℕ, suc, Bool, true, false, map, slice_index_or, slice_set, List, [], Option}
use Rattle.std.proofs.{Common.{Some, None, reverse, refl, sym, ◌∙◌, ap, subst}, lemmas.Bool.Decides.{nat_tests}}
use Rattle.lz_slot.specs.{declared.history.HistoryEvent.{HistoryEvent}, Counted.{of_pass, set_of_pass}}
use Rattle.lz_disk.specs.{Images.{Medium}, Devices.{Device}, Records.{Past, after, device_of}}
use Rattle.lz_machine.specs.{declared.{event.{Event.{Event}, Outcome.{Outcome, TheVariants.{Fault}}, Reply.{Reply}}, caller.Progress.{Progress}}, Yards.{Shape}}
use Rattle.lz_machine.specs.{Table.{line}, Orders.{MayTake}, Runs.{Transition, Caller, Service, Up, Turn, Fails, HasFault, caller_at, next_event, reply_at}}
use Rattle.lz_machine.{specs.Runs.{moved_on, marks_of_turn, mark_of_turn}, proofs.Runs.{CallerEvent.{Next}, CallerTable.{fault_no_reply}}}
use Rattle.lz_machine.proofs.Theorem.{Timing.{may_take}, EventNeeds.{may_take_fault}, BetweenLooks.{is_look}}
use Rattle.lz_core.specs.{declared.{play.Step.TheVariants.{Turn as TurnOf}, open_calls.OpenCall.{OpenCall}}, Trips.{CallsDevice}, Worlds.{WorldOver, Goes}}
use Rattle.lz_core.specs.Worlds.{TakesTurn, HasOne, IsCallOn, IsWorld, armed, call_shown, call_after, mark_list, next_of, state_shown, world_shown}
use Rattle.lz_core.proofs.Runs.PlayedStep.{runs_on}
use Rattle.lz_core.proofs.Callers.ShownCallers.{asked_shown, get_at, of_at, of_set, on_set, same_count, shown_caller, shown_set, to_progress}
use Rattle.lz_core.proofs.Callers.NextEvent.{called_on, in_range, medium, next, quiet_goes, same_shape, service}
use Rattle.lz_yard.{specs.{Steps.{Played}, declared.told.Told.{Told}, Parts.{YardOver}}, proofs.Events.KeptFit.{played_shape, fault_or_not}}
use Rattle.lz_yard.proofs.Events.{PassPlaces.{set_at}, RunTransition.{after_it, moved, done, failed}}
use Rattle.lz_judge.specs.MarkLines.{AreMarksOfRun, IsCallNumber}

abbrev shown_of : OpenCall → Caller
shown_of own = record { number = own.number; command = own.caller.command; progress = own.caller.progress }

-- the mark of a call has its number
marks_of_reply : (i : ℕ) (reply : Option Reply) → IsCallNumber i → AreMarksOfRun (mark_of_turn i reply)
marks_of_reply i None number = tt
marks_of_reply i (Some replies.Yes) number = (number, tt)
marks_of_reply i (Some replies.No) number = (number, tt)
marks_of_reply i (Some (replies.Full counts)) number = (number, tt)
marks_of_reply i (Some replies.Worn) number = (number, tt)
marks_of_reply i (Some replies.OldFile) number = (number, tt)
marks_of_reply i (Some replies.Halted) number = (number, tt)
marks_of_reply i (Some replies.Device) number = (number, tt)

marks_of_call : (shape : Shape) (call : Option OpenCall) → IsCallOn shape call → AreMarksOfRun (marks_of_turn (call_shown call))
marks_of_call shape None on = tt
marks_of_call shape (Some call) (buckets, passes, number) = marks_of_reply call.number (reply_at call.caller.progress) number

twice_over : (caller : Option Caller) → marks_of_turn caller ≡ reverse (reverse (marks_of_turn caller))
twice_over None = refl
twice_over (Some caller) = grind (arith, nat_tests)

one_mark : (mark : Option HistoryEvent) → mark_list mark ≡ reverse (mark_list mark)
one_mark None = refl
one_mark (Some mark) = refl

-- A world with an open service goes on by this event, where its device was tripped or not.
module _ (shape : Shape) (over : YardOver Past) (disk : Option Past) (callers : List (Option OpenCall)) (calls a : ℕ) (world : IsWorld shape (Some over) disk callers calls) (e : Event) (is : next_of (state_shown shape (Some over) disk callers) a ≡ Some e)
    (tripped : Bool) (over' : YardOver Past) (outcome : Outcome) (call' : Option OpenCall) (news : Told) (event : Played over.yard a e outcome over'.yard news (device_of (armed tripped over.disk)) (device_of over'.disk))
    (shown : call_shown call' ≡ call_after (slice_index_or callers (a - 1) None) outcome) where
  abbrev served : Service
  served = service shape over disk callers calls a world e is

  abbrev old : WorldOver
  old = world_shown shape (Some over) disk callers calls tripped

  abbrev new : WorldOver
  new = world_shown shape (Some over') disk (slice_set callers (a - 1) call') calls tripped

  abbrev disk_then : Medium
  disk_then = after over.disk.bytewise over.disk.start over.disk.records

  abbrev disk_now : Medium
  disk_now = after over'.disk.bytewise over'.disk.start over'.disk.records

  abbrev before : Device
  before = device_of (armed tripped over.disk)

  asks : Next served a e
  asks = next shape over disk callers calls a world e is

  low : 1 ≤ a
  low = (in_range shape over disk callers calls a world e is).0

  own : (q : OpenCall) × (of_pass callers a None ≡ Some q) × (asks.caller ≡ shown_of q)
  own = of_set (of_pass callers a None) asks.caller (sym (asked_shown callers a) ∙ asks.at)

  there : slice_index_or callers (a - 1) None ≡ Some own.0
  there = sym (of_at callers a low) ∙ own.1

  on_own : IsCallOn shape (Some own.0)
  on_own = world.on_it (a - 1) (Some own.0) (get_at callers (a - 1) own.0 there)

  moved_so : call_shown call' ≡ moved over'.yard.shape asks.caller outcome
  moved_so =
      shown
      ∙ ap (λ (q : Option OpenCall). call_after q outcome) there
      ∙ ap (λ (at : Progress). moved_on (reply_at own.0.caller.progress) (shown_of own.0) at) (to_progress shape own.0 outcome on_own)
      ∙ ap (λ (s : Shape). moved s (shown_of own.0) outcome) (sym (same_shape shape over disk callers calls a world e is) ∙ sym (played_shape over.yard a e outcome over'.yard news before (device_of over'.disk) event))
      ∙ ap (λ (c : Caller). moved over'.yard.shape c outcome) (sym own.2)

  callers_are : set_of_pass (map call_shown callers) a (moved over'.yard.shape asks.caller outcome) ≡ map call_shown (slice_set callers (a - 1) call')
  callers_are = grind (arith, nat_tests, set_at, moved, asks, low, slice_set, moved_so, shown_set)

  after_is : (left : Medium) → disk_now ≡ left → Up (after_it served a asks.caller over'.yard outcome) left ≡ new.state
  after_is left same = ap (λ (m : Medium). Up (after_it served a asks.caller over'.yard outcome) m) (sym same) ∙ ap (λ (cs : List (Option Caller)). Up (record { yard = over'.yard; callers = cs }) disk_now) callers_are

  told_by : (marks : List HistoryEvent) → marks ≡ marks_of_turn (call_shown (slice_index_or callers (a - 1) None)) → marks_of_turn (caller_at served.callers a) ≡ marks
  told_by marks same = ap marks_of_turn (shown_caller callers a low) ∙ sym same

  event_here : Played over.yard a (next_event over.yard asks.caller) outcome over'.yard news before (device_of over'.disk)
  event_here = subst (λ (ev : Event). Played over.yard a ev outcome over'.yard news before (device_of over'.disk)) (sym asks.event) event

  goes_done : (marks : List HistoryEvent) → marks_of_turn (caller_at served.callers a) ≡ reverse marks → outcome ≢ Fault → Goes old (TurnOf a) (Turn a) marks new
  goes_done marks told other =
      let by = done world.ran.start world.ran.point world.ran.reached served disk_then world.ran.at.state a asks.caller asks.at before (device_of over'.disk) over'.yard outcome news (λ honest. refl) other event_here in
      record { is = inl refl; may = by.may; to = by.to (suc calls) ∙ after_is by.medium (by.device refl); counts = refl; told = told }

  goes_failed : (marks : List HistoryEvent) → marks_of_turn (caller_at served.callers a) ≡ reverse marks → outcome ≡ Fault → (left : Medium) × Goes old (TurnOf a) (Fails a left) marks new
  goes_failed marks told fault =
      let by = failed world.ran.start world.ran.point world.ran.reached served disk_then world.ran.at.state a asks.caller asks.at before (device_of over'.disk) over'.yard outcome news (λ honest. refl) fault event_here true refl in
      let fails = subst (λ (o : Option Caller). HasFault served disk_then a o by.0) asks.at by.1.may in
      let silent : marks_of_turn (caller_at served.callers a) ≡ [] = ap marks_of_turn asks.at ∙ ap (mark_of_turn asks.caller.number) (fault_no_reply over.yard a asks.caller.command asks.caller.progress disk_then by.0 fails) in
      (by.0, record { is = inr (by.0, refl); may = by.1.may; to = by.1.to (suc calls) ∙ after_is by.1.medium (by.1.device refl); counts = refl; told = sym silent ∙ told })

  -- where the device was tripped, an event that doesn't fail calls no device
  no_call_made : outcome ≢ Fault → IsTrue tripped → ¬ CallsDevice old.state a
  no_call_made other is_tripped device = grind (arith, nat_tests, asks, event_here)

  world_by : (step : Transition) (marks : List HistoryEvent) → IsCallOn shape call' → HasOne (Some over') disk → Goes old (TurnOf a) step marks new → is_look step ≡ false → IsWorld shape (Some over') disk (slice_set callers (a - 1) call') calls
  world_by step marks on one goes other = record {
    one = one;
    count = same_count callers (a - 1) call' ∙ world.count;
    on_it = on_set shape callers (a - 1) call' on world.on_it;
    ran = runs_on shape old new (TurnOf a) step marks world.ran goes (quiet_goes shape old new (TurnOf a) step marks world.ran goes other);
  }

  pub world_on : IsCallOn shape call' → HasOne (Some over') disk → IsWorld shape (Some over') disk (slice_set callers (a - 1) call') calls
  world_on on one =
      let marks = reverse (marks_of_turn (caller_at served.callers a)) in
      let told = twice_over (caller_at served.callers a) in
      elim (fault_or_not outcome) [
        | inl fault ↦ let goes = goes_failed marks told fault in world_by (Fails a goes.0) marks on one goes.1 refl
        | inr other ↦ world_by (Turn a) marks on one (goes_done marks told other) refl
      ]

  pub turn_taken : (mark : Option HistoryEvent) → mark_list mark ≡ marks_of_turn (call_shown (slice_index_or callers (a - 1) None)) → TakesTurn old a outcome (mark_list mark) new
  turn_taken mark same =
      let told = told_by (mark_list mark) same ∙ one_mark mark in
      record {
        done = λ other. (goes_done (mark_list mark) told other, no_call_made other);
        failed = goes_failed (mark_list mark) told;
        of_run = subst AreMarksOfRun
            (sym same) (marks_of_call shape (slice_index_or callers (a - 1) None) (called_on shape over disk callers calls a world e is));
        tripped = refl;
      }

-- what the caller takes
take_by : (call : Option OpenCall) (own : OpenCall) (outcome : Outcome) → call ≡ Some own → MayTake own.caller.progress outcome → IfSome call (λ under_way. MayTake under_way.caller.progress outcome)
take_by call own outcome at may = rw at may

pub takes_on : (shape : Shape) (over : YardOver Past) (disk : Option Past) (callers : List (Option OpenCall)) (calls a : ℕ) (world : IsWorld shape (Some over) disk callers calls) (e : Event) (is : next_of (state_shown shape (Some over) disk callers) a ≡ Some e)
    (tripped : Bool) (over' : YardOver Past) (outcome : Outcome) (news : Told) (event : Played over.yard a e outcome over'.yard news (device_of (armed tripped over.disk)) (device_of over'.disk))
    → IfSome (slice_index_or callers (a - 1) None) (λ under_way. MayTake under_way.caller.progress outcome)
takes_on shape over disk callers calls a world e is tripped over' outcome news event =
    let asks = next shape over disk callers calls a world e is in
    let low = (in_range shape over disk callers calls a world e is).0 in
    let own = of_set (of_pass callers a None) asks.caller (sym (asked_shown callers a) ∙ asks.at) in
    let there = sym (of_at callers a low) ∙ own.1 in
    take_by (slice_index_or callers (a - 1) None) own.0 outcome there
    (elim (fault_or_not outcome) [
      | inl fault ↦ subst (MayTake own.0.caller.progress) (sym fault) (may_take_fault own.0.caller.progress)
      | inr other ↦ subst (MayTake own.0.caller.progress) (ap (λ (ev : Event). (line over.yard a ev).1) asks.event ∙ sym (event.done other).answer)
          (subst (λ (c : Caller). MayTake c.progress (line over.yard a (next_event over.yard asks.caller)).1) own.2
          (may_take world.ran.start world.ran.point world.ran.reached (service shape over disk callers calls a world e is) (medium shape over disk callers calls a world e is) world.ran.at.state a asks.caller asks.at))
    ])

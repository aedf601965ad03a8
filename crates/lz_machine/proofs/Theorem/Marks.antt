-- The marks of a run: the open calls of the history are those of the callers.
use Rattle.std.proofs.lemmas.{Bool.{cases_eq, Decides.{nat_tests}}, List.{length-replicate}, Option.{same_Some, none-some}}
use Rattle.std.proofs.Common.{◌≡◌, ◌≢◌, inl, inr, ℕ, suc, ◌≤◌, true, false, List, [], ◌∷◌, ◌++◌, length, Option, Some, None, refl, sym, ap, ◌∙◌, subst, arith}
use mathlib.Core.Bool.{false≢true}
use Rattle.lz_slot.specs.declared.{command.Command.{Command}, history.HistoryEvent.{HistoryEvent, TheVariants.{Call, Answer, Refused, Cut, Stop, Crash, OpenFailed}}}
use Rattle.lz_slot.{specs.{Counted.{set_of_pass}, Histories.{History, IsCalled}}, proofs.Counted.{of_pass_same, of_pass_other, length-set_of_pass}}
use Rattle.lz_disk.specs.Images.{Medium}
use Rattle.lz_machine.specs.{declared.event.{Outcome.{Outcome}, Reply.{Reply}}, Yards.{Yard, Shape, actor_at}, Table.{course, line, line_failed}}
use Rattle.lz_machine.specs.{Calls.{progress_after}, Runs.{Caller, Service, State, Up, Down, Start, Transition, Calls, Turn, Fails, Looks, Trips, Stops}}
use Rattle.lz_machine.specs.Runs.{Crashes, CrashesIn, Opens, OpenFails, caller_at, next_event, reply_at, moved_on, after_turn, after_fault, opened_service}
use Rattle.lz_machine.specs.Runs.{state_after, HasTurn, HasFault, MayStep, IsActor, mark_of, mark_of_turn, marks_of_turn, marks_of, calls_made_after, run}
use Rattle.lz_machine.{specs.{Runs.{IsRun, first_point}, Marks.{IsOpenCall, MayFollow, IsTold, MarksTell}}, proofs.Frames.OneActor.{caller_range}}
use Rattle.lz_machine.proofs.{Runs.{Shape.{line_keeps_shape}, CallerTable.{none_of, fault_no_reply}}, Open.FoundSlots.{pass_of}}
use Rattle.lz_machine.proofs.Ledger.CallMark.{number_of, is_call}

called_before : (m : HistoryEvent) (M : History) (i : ℕ) (c : Command) → is_call m ≡ false → IsCalled (m ∷ M) i c → IsCalled M i c
called_before m M i c other h = grind (arith, nat_tests, false≢true, is_call)

-- an open call was made
pub open_called : (M : History) (i a : ℕ) → IsOpenCall M i a → (c : Command) × IsCalled M i c
open_called (Call j b c ∷ M) i a (inl now) = (c, (b, inl (ap (λ (q : ℕ). Call q b c) now.0)))
open_called (Call j b c ∷ M) i a (inr before) = let there = open_called M i a before in (there.0, (there.1.0, inr there.1.1))
open_called (Answer j answer ∷ M) i a h = let there = open_called M i a h.1 in (there.0, (there.1.0, inr there.1.1))
open_called (Refused j why ∷ M) i a h = let there = open_called M i a h.1 in (there.0, (there.1.0, inr there.1.1))
open_called (Cut j why ∷ M) i a h = let there = open_called M i a h.1 in (there.0, (there.1.0, inr there.1.1))
open_called _ i a h = absurd h

-- what the marks and the callers say of each other
pub record AreOpen (callers : List (Option Caller)) (M : History) : Type 0 where
  pub has : (a : ℕ) (caller : Caller) → caller_at callers a ≡ Some caller → IsOpenCall M caller.number a
  pub only : (a i : ℕ) → IsOpenCall M i a → (caller : Caller) × (caller_at callers a ≡ Some caller) × (caller.number ≡ i)
  pub apart : (a b i : ℕ) → IsOpenCall M i a → IsOpenCall M i b → a ≡ b

abbrev pub OpenCalls : State → History → Type 0
OpenCalls (Up service disk) M = (length service.callers ≡ service.yard.shape.passes) × AreOpen service.callers M
OpenCalls (Down shape disk) M = (a i : ℕ) → IsOpenCall M i a → ⊥

pub record Tells (calls : ℕ) (w : State) (M : History) : Type 0 where
  pub told : IsTold M
  pub numbered : (i : ℕ) (c : Command) → IsCalled M i c → i ≤ calls
  pub open_calls : OpenCalls w M

-- a reply ends its call, and leaves the others
ends_open : (M : History) (i j a : ℕ) (reply : Reply) → IsOpenCall (mark_of i reply ∷ M) j a → (i ≢ j) × IsOpenCall M j a
ends_open M i j a reply h = grind (arith, nat_tests)

stays_open : (M : History) (i j a : ℕ) (reply : Reply) → i ≢ j → IsOpenCall M j a → IsOpenCall (mark_of i reply ∷ M) j a
stays_open M i j a reply other h = grind (arith, nat_tests)

may_reply : (M : History) (i a : ℕ) (reply : Reply) → IsOpenCall M i a → MayFollow (mark_of i reply) M
may_reply M i a reply h = grind (arith, nat_tests)

no_call : (i : ℕ) (reply : Reply) → is_call (mark_of i reply) ≡ false
no_call i reply = grind (arith, nat_tests)

-- the callers where one of them changes
module _ (callers : List (Option Caller)) (M : History) (old : AreOpen callers M) (a : ℕ) (low : 1 ≤ a) (high : a ≤ length callers) where
  here : (x : Option Caller) (b : ℕ) → b ≡ a → caller_at (set_of_pass callers a x) b ≡ x
  here x b same = subst (λ (q : ℕ). caller_at (set_of_pass callers a x) q ≡ x) (sym same) (of_pass_same callers a x None low high)

  away : (x : Option Caller) (b : ℕ) → b ≢ a → caller_at (set_of_pass callers a x) b ≡ caller_at callers b
  away x b other = of_pass_other callers a b x None other

  -- a new call
  call_opens : (i : ℕ) (c : Command) (new : Caller) → new.number ≡ i → ((j b : ℕ) → IsOpenCall M j b → j ≢ i) → caller_at callers a ≡ None → AreOpen (set_of_pass callers a (Some new)) (Call i a c ∷ M)
  call_opens i c new number fresh none = grind (arith, nat_tests, cases_eq, same_Some, here, away, none-some)

  module _ (caller : Caller) (at : caller_at callers a ≡ Some caller) where
    -- the call goes on
    goes_open : (new : Caller) → new.number ≡ caller.number → AreOpen (set_of_pass callers a (Some new)) M
    goes_open new number = grind (arith, nat_tests, cases_eq, same_Some, here, away)

    -- the call ends
    reply_closes : (reply : Reply) → AreOpen (set_of_pass callers a None) (mark_of caller.number reply ∷ M)
    reply_closes reply = record {
      has = λ b one is. elim (cases_eq b a) [
        | inl same ↦ absurd (none-some _ (sym (here None b same) ∙ is))
        | inr other ↦
            let before = old.has b one (sym (away None b other) ∙ is) in
            stays_open M caller.number one.number b reply
            (λ number. other (old.apart b a one.number before (subst (λ (j : ℕ). IsOpenCall M j a) number (old.has a caller at))))
            before
      ];
      only = λ b j is.
          let left = ends_open M caller.number j b reply is in
          let was = old.only b j left.1 in
          elim (cases_eq b a) [
            | inl same ↦ absurd (left.0 (ap (λ (q : Caller). q.number) (same_Some _ _ (sym at ∙ ap (caller_at callers) (sym same) ∙ was.1)) ∙ was.2))
            | inr other ↦ (was.0, away None b other ∙ was.1, was.2)
          ];
      apart = λ b d j one other. old.apart b d j (ends_open M caller.number j b reply one).1 (ends_open M caller.number j d reply other).1;
    }

ended : (calls : ℕ) (m : HistoryEvent) (w : State) (M : History) → is_call m ≡ false → MayFollow m M → IsTold M → ((i : ℕ) (c : Command) → IsCalled M i c → i ≤ calls) → OpenCalls w (m ∷ M) → Tells calls w (m ∷ M)
ended calls m w M other may told numbered open_calls = record {
  told = (may, told);
  numbered = λ i c is. numbered i c (called_before m M i c other is);
  open_calls = open_calls;
}

module _ (calls : ℕ) (y : Yard) (callers : List (Option Caller)) (disk : Medium) (M : History) (h : Tells calls (Up (record { yard = y; callers = callers }) disk) M) where
  abbrev serving : Service
  serving = record { yard = y; callers = callers }

  module _ (a : ℕ) (caller : Caller) (at : caller_at callers a ≡ Some caller) (after : Yard × Outcome) (shape : after.0.shape ≡ y.shape) (disk' : Medium) where
    abbrev next_callers : Option Reply → List (Option Caller)
    next_callers reply = set_of_pass callers a (moved_on reply caller (progress_after after.0.shape caller.command caller.progress after.1))

    count : (x : Option Caller) → length (set_of_pass callers a x) ≡ after.0.shape.passes
    count x = length-set_of_pass callers a x ∙ h.open_calls.0 ∙ ap (λ (s : Shape). s.passes) (sym shape)

    -- a turn, with the reply that it gives
    turn_tells : (reply : Option Reply) → Tells calls (Up (record { yard = after.0; callers = next_callers reply }) disk') (mark_of_turn caller.number reply ++ M)
    turn_tells None =
        let range = caller_range callers a caller at in
        record { told = h.told; numbered = h.numbered; open_calls = (count _, goes_open callers M h.open_calls.1 a range.0 range.1 caller at _ refl) }
    turn_tells (Some reply) =
        let range = caller_range callers a caller at in
        ended calls (mark_of caller.number reply) _ M (no_call caller.number reply) (may_reply M caller.number a reply (h.open_calls.1.has a caller at)) h.told h.numbered
        (count None, reply_closes callers M h.open_calls.1 a range.0 range.1 caller at reply)

  done_tells : (a : ℕ) (q : Option Caller) → caller_at callers a ≡ q → HasTurn serving a q → Tells calls (after_turn serving disk a q) (marks_of_turn q ++ M)
  done_tells a None at may = absurd may
  done_tells a (Some caller) at may =
      let e = next_event y caller in
      turn_tells a caller at (line y a e) (line_keeps_shape (course y a e) y (actor_at y a) a e) _ (reply_at caller.progress)

  fault_tells : (new : Medium) (a : ℕ) (q : Option Caller) → caller_at callers a ≡ q → HasFault serving disk a q new → Tells calls (after_fault serving new a q) M
  fault_tells new a None at may = absurd may
  fault_tells new a (Some caller) at may =
      let none = fault_no_reply y a caller.command caller.progress disk new may in
      let after = line_failed y a (next_event y caller) in
      subst (λ (r : Option Reply). Tells calls (Up (record { yard = after.0; callers = set_of_pass callers a (moved_on r caller (progress_after after.0.shape caller.command caller.progress after.1)) }) new) M) (sym none)
      (turn_tells a caller at after refl new None)

  call_tells : (a : ℕ) (c : Command) → IsActor serving a → caller_at callers a ≡ None
      → Tells (suc calls) (state_after (suc calls) (Up serving disk) (Calls a c)) (Call (suc calls) a c ∷ M)
  call_tells a c actor none = record {
    told = ((λ d is. absurd (omega (arith, h.numbered (suc calls) d is)), λ j begun. let was = h.open_calls.1.only a j begun in none-some _ (sym none ∙ was.1)), h.told);
    numbered = numbered_now;
    open_calls = (
      length-set_of_pass callers a _ ∙ h.open_calls.0,
      call_opens callers M h.open_calls.1 a actor.0 (omega (arith, actor.1, h.open_calls.0)) (suc calls) c _ refl (λ j b begun is. let there = open_called M j b begun in omega (arith, is, h.numbered j there.0 there.1)) none,
    );
  }
    where
      numbered_now : (i : ℕ) (d : Command) → IsCalled (Call (suc calls) a c ∷ M) i d → i ≤ suc calls
      numbered_now i d (b, inl new) = omega (arith, ap number_of new)
      numbered_now i d (b, inr there) = omega (arith, h.numbered i d (b, there))

  up_tells : (step : Transition) → MayStep (Up serving disk) step → Tells (calls_made_after calls step) (state_after (suc calls) (Up serving disk) step) (marks_of (suc calls) (Up serving disk) step ++ M)
  up_tells (Calls a c) may = call_tells a c may.0 (none_of (caller_at callers a) may.1)
  up_tells (Turn a) may = done_tells a (caller_at callers a) refl may
  up_tells (Fails a new) may = fault_tells new a (caller_at callers a) refl may
  up_tells (Looks a) may = record { told = h.told; numbered = h.numbered; open_calls = h.open_calls }
  up_tells Trips may = h
  up_tells Stops may = ended calls Stop _ M refl tt h.told h.numbered (λ a i is. is)
  up_tells (Crashes t) may = ended calls Crash _ M refl tt h.told h.numbered (λ a i is. is)
  up_tells (CrashesIn a t) may = ended calls Crash _ M refl tt h.told h.numbered (λ a i is. is)
  up_tells _ may = absurd may

opens_open : (shape : Shape) (t : List ℕ) (M : History) → ((a i : ℕ) → IsOpenCall M i a → ⊥) → AreOpen (opened_service shape t).callers M
opens_open shape t M none = grind (arith, nat_tests, none-some, pass_of)

module _ (calls : ℕ) (shape : Shape) (disk : Medium) (M : History) (h : Tells calls (Down shape disk) M) where
  down_tells : (step : Transition) → MayStep (Down shape disk) step → Tells (calls_made_after calls step) (state_after (suc calls) (Down shape disk) step) (marks_of (suc calls) (Down shape disk) step ++ M)
  down_tells Trips may = h
  down_tells Stops may = ended calls Stop _ M refl tt h.told h.numbered (λ a i is. is)
  down_tells (Crashes t) may = ended calls Crash _ M refl tt h.told h.numbered (λ a i is. is)
  down_tells Opens may = ended calls _ _ M refl tt h.told h.numbered (length-replicate shape.passes None, opens_open shape disk.seen _ (λ a i is. is))
  down_tells (OpenFails why true) may = ended calls (OpenFailed why) _ M refl tt h.told h.numbered (λ a i is. is)
  down_tells (OpenFails why false) may = ended calls (OpenFailed why) _ M refl tt h.told h.numbered (λ a i is. is)
  down_tells _ may = absurd may

step_tells : (calls : ℕ) (w : State) (M : History) (step : Transition) → MayStep w step → Tells calls w M → Tells (calls_made_after calls step) (state_after (suc calls) w step) (marks_of (suc calls) w step ++ M)
step_tells calls (Up service disk) M step may h = up_tells calls service.yard service.callers disk M h step may
step_tells calls (Down shape disk) M step may h = down_tells calls shape disk M h step may

pub run_tells : (start : Start) (steps : List Transition) → IsRun (first_point start) steps → Tells (run (first_point start) steps).calls (run (first_point start) steps).state (run (first_point start) steps).marks
run_tells start [] runs = record {
  told = tt;
  numbered = λ i c is. absurd is.1;
  open_calls = (length-replicate start.shape.passes None, opens_open start.shape start.text [] (λ a i is. is));
}
run_tells start (step ∷ steps) runs = grind (arith, step_tells, run_tells start steps runs.1)

-- the marks tell of each call once, and of one that is open for each actor
pub marks_tell : MarksTell
marks_tell start w M P reached = subst IsTold reached.marks (run_tells start reached.steps reached.runs).told

-- A vault is dead after the first device call that fails, and makes no other: so in each life one call at most is told of it.
use Rattle.std.proofs.{lemmas.Bool.{cases_Bool, Decides.{nat_tests}}, Common.{◌≡◌, ◌≢◌, ℕ, zero, suc, ◌+◌, ◌-◌, ◌<◌, ◌≤◌, Bool, true, false, List, [], ◌∷◌}}
use Rattle.std.proofs.Common.{◌++◌, length, slice_set, Option, Some, None, refl, sym, ap, ◌∙◌, subst, arith}
use Rattle.std.specs.Prelude.{if◌then◌else◌, replicate, slice_index_or}
use mathlib.Core.Bool.{false≢true}
use Rattle.lz_slot.specs.{declared.command.Command.{Command}, Counted.{set_of_pass}, Histories.{History}}
use Rattle.lz_disk.specs.Images.{Medium}
use Rattle.lz_vault.specs.Vaults.{MayFail, NoCall}
use Rattle.lz_machine.specs.declared.{course.Course.{Course}, event.{Event.{Event}, Outcome.{Outcome, TheVariants.{Fault}}, Reply.{Reply}}}
use Rattle.lz_machine.specs.{declared.caller.{Sequence.{Sequence}, Progress.{Progress, TheVariants.{Playing}}}, Yards.{Shape, Yard, actor_at}}
use Rattle.lz_machine.specs.{Table.{course, line, line_call, line_failed, line_on}, Calls.{goes_on, progress_after}, Runs.{Caller, Service, State, Up, Down}}
use Rattle.lz_machine.specs.Runs.{Start, Point, Transition, Calls, Turn, Fails, Looks, Trips, Stops, Crashes, Opens, OpenFails, caller_at, next_event, reply_at}
use Rattle.lz_machine.specs.Runs.{moved_on, state_after, HasTurn, HasFault, MayStep, mark_of, mark_of_turn, marks_of_turn, marks_of, after_turn, after_fault}
use Rattle.lz_machine.specs.{Runs.{run, IsRun, first_point}, Halts.{FailsOnce, calls_due, device_due, device_reply, due_in, failed_in, reply_due, told_device}}
use Rattle.lz_machine.proofs.{Alone.Halt.{replies}, Frames.OneActor.{caller_range}, Runs.CallerTable.{fault_no_reply}}
use Rattle.lz_machine.proofs.Runs.{FlowChart.{Edge, fails, again, back, on, past, next_edge}, Course.{each_course}, Outcomes.{no_fault}}
use Rattle.lz_machine.proofs.Theorem.Marks.{Tells, run_tells}

-- a dead vault makes no device call
dead_calls : (y : Yard) (a : ℕ) (e : Event) → y.vault.dead ≡ true → line_call y a e ≡ NoCall
dead_calls y a e dead = grind arith

-- so a device call that fails finds the vault alive
fails_alive : (y : Yard) (a : ℕ) (e : Event) (disk new : Medium) → MayFail (line_call y a e) disk new → y.vault.dead ≡ false
fails_alive y a e disk new may = grind (arith, cases_Bool, dead_calls)

-- and a vault that is alive was so before
was_alive : (y : Yard) (a : ℕ) (e : Event) (k : Course) → (line_on k y (actor_at y a) a e).0.vault.dead ≡ false → y.vault.dead ≡ false
was_alive y a e k alive = grind (arith, nat_tests, false≢true)

-- a turn is no fault
no_turn_fault : (y : Yard) (a : ℕ) (e : Event) → (line y a e).1 ≢ Fault
no_turn_fault y a e = each_course (λ k. (line_on k y (actor_at y a) a e).1 ≢ Fault) y a e (λ dead stops is. cc) (λ lacks is. cc) (λ pin last is. cc) (λ s sync is. cc) (λ has fresh. no_fault y (actor_at y a) e)

-- Where a call isn't to be told of a failure, it isn't after an event that is no fault.
abbrev NotDue : Progress → Type 0
NotDue at = device_reply (reply_due at) ≡ 0

same_due : (sequence : Sequence) (i j : ℕ) → reply_due (Playing sequence i) ≡ reply_due (Playing sequence j)
same_due sequence i j = grind (arith, nat_tests)

if_due : (b : Bool) (one other : Progress) → NotDue one → NotDue other → NotDue (if b then one else other)
if_due b one other is also = grind (arith, nat_tests)

past_due : (sequence : Sequence) (i : ℕ) → NotDue (Playing sequence i) → NotDue (goes_on sequence)
past_due sequence i is = grind (arith, nat_tests)

onward_due : {shape : Shape} {c : Command} {at : Progress} {outcome : Outcome} {next : Progress} → Edge shape c at outcome next → outcome ≢ Fault → NotDue at → NotDue next
onward_due (fails c at) other is = absurd (other refl)
onward_due (again c at outcome) other is = is
onward_due (back c sequence i) other is = ap device_reply (same_due sequence (i - 1) i) ∙ is
onward_due (on c sequence i outcome) other is = ap device_reply (same_due sequence (i + 1) i) ∙ is
onward_due (past c sequence i outcome) other is = past_due sequence i is
onward_due _ other is = refl

-- a call counts once at most
reply_once : (r : Option Reply) → device_reply r ≤ 1
reply_once r = grind (arith, nat_tests)

no_more : (x y : ℕ) → y ≤ 1 → (x ≡ 0 → y ≡ 0) → y ≤ x
no_more x y once none = grind (arith, nat_tests)

-- where one of the calls changes
due_slice : (callers : List (Option Caller)) (i : ℕ) (x : Option Caller) → i < length callers → calls_due (slice_set callers i x) + device_due (slice_index_or callers i None) ≡ calls_due callers + device_due x
due_slice [] i x lt = absurd (omega (arith, lt))
due_slice (q ∷ callers) zero x lt = omega arith
due_slice (q ∷ callers) (suc i) x lt = let rest = due_slice callers i x (omega (arith, lt)) in omega (arith, rest)

due_set : (callers : List (Option Caller)) (a : ℕ) (x : Option Caller) → 1 ≤ a → a ≤ length callers → calls_due (set_of_pass callers a x) + device_due (caller_at callers a) ≡ calls_due callers + device_due x
due_set callers a x low high = grind (arith, nat_tests, due_slice)

due_none : (n : ℕ) → calls_due (replicate n None) ≡ 0
due_none zero = refl
due_none (suc n) = let rest = due_none n in omega (arith, rest)

-- a reply ends its call, and shows what it told
told_reply : (M : History) (i : ℕ) (reply : Reply) → told_device (mark_of i reply ∷ M) ≡ device_reply (Some reply) + told_device M
told_reply M i reply = grind (arith, nat_tests)

-- so many device calls have failed in this life: none while the vault is alive
abbrev IsAlive : State → Type 0
IsAlive (Up service disk) = service.yard.vault.dead ≡ false
IsAlive (Down shape disk) = ⊥

record Failures (n : ℕ) (w : State) (M : History) : Type 0 where
  none : IsAlive w → n ≡ 0
  once : n ≤ 1
  told : told_device M + due_in w ≤ n

module _ (n : ℕ) (y : Yard) (callers : List (Option Caller)) (disk : Medium) (M : History) (h : Failures n (Up (record { yard = y; callers = callers }) disk) M) where
  abbrev serving : Service
  serving = record { yard = y; callers = callers }

  module _ (a : ℕ) (caller : Caller) (at : caller_at callers a ≡ Some caller) where
    due_here : (x : Option Caller) → calls_due (set_of_pass callers a x) + device_reply (reply_due caller.progress) ≡ calls_due callers + device_due x
    due_here x = grind (arith, caller_range, due_set)

    turn_failures : (y' : Yard) (disk' : Medium) (next : Progress) (reply : Option Reply) → reply_at caller.progress ≡ reply → (y'.vault.dead ≡ false → y.vault.dead ≡ false)
        → (reply ≡ None → device_reply (reply_due next) ≤ device_reply (reply_due caller.progress))
        → Failures n (Up (record { yard = y'; callers = set_of_pass callers a (moved_on reply caller next) }) disk') (mark_of_turn caller.number reply ++ M)
    turn_failures y' disk' next reply is alive onward = grind (arith, nat_tests, due_here, told_reply, replies)

  done_failures : (a : ℕ) (q : Option Caller) → caller_at callers a ≡ q → HasTurn serving a q → Failures n (after_turn serving disk a q) (marks_of_turn q ++ M)
  done_failures a None at may = absurd may
  done_failures a (Some caller) at may =
      let e = next_event y caller in
      let next = progress_after (line y a e).0.shape caller.command caller.progress (line y a e).1 in
      turn_failures a caller at (line y a e).0 _ next (reply_at caller.progress) refl (was_alive y a e (course y a e))
      (λ going. no_more (device_reply (reply_due caller.progress)) (device_reply (reply_due next)) (reply_once (reply_due next)) (onward_due (next_edge (line y a e).0.shape caller.command caller.progress (line y a e).1) (no_turn_fault y a e)))

  fault_failures : (new : Medium) (a : ℕ) (q : Option Caller) → caller_at callers a ≡ q → HasFault serving disk a q new → Failures (suc n) (after_fault serving new a q) M
  fault_failures new a None at may = absurd may
  fault_failures new a (Some caller) at may =
      let e = next_event y caller in
      let none : n ≡ 0 = h.none (fails_alive y a e disk new may) in
      let next = progress_after y.shape caller.command caller.progress Fault in
      let going = fault_no_reply y a caller.command caller.progress disk new may in
      let sum = due_here a caller at (Some (record { number = caller.number; command = caller.command; progress = next })) in
      let was = h.told in
      subst (λ (r : Option Reply). Failures (suc n) (Up (record { yard = (line_failed y a e).0; callers = set_of_pass callers a (moved_on r caller next) }) new) M) (sym going) record {
        none = λ alive. absurd (false≢true (sym alive));
        once = omega (arith, none);
        told = omega (arith, none, sum, was);
      }

  call_failures : (i a : ℕ) (c : Command) → MayStep (Up serving disk) (Calls a c) → length callers ≡ y.shape.passes → Failures n (state_after i (Up serving disk) (Calls a c)) (marks_of i (Up serving disk) (Calls a c) ++ M)
  call_failures i a c may count = grind (arith, nat_tests, due_set, if_due)

-- nothing was told yet
nothing_told : (n : ℕ) → 0 ≤ n
nothing_told n = omega arith

none_due : (n : ℕ) → 0 + calls_due (replicate n None) ≤ 0
none_due n = let none = due_none n in omega (arith, none)

module _ (steps : List Transition) (y : Yard) (callers : List (Option Caller)) (disk : Medium) (M : History) (h : Failures (failed_in steps) (Up (record { yard = y; callers = callers }) disk) M) (count : length callers ≡ y.shape.passes) where
  up_failures : (i : ℕ) (step : Transition) → MayStep (Up (record { yard = y; callers = callers }) disk) step
      → Failures (failed_in (step ∷ steps)) (state_after i (Up (record { yard = y; callers = callers }) disk) step) (marks_of i (Up (record { yard = y; callers = callers }) disk) step ++ M)
  up_failures i (Calls a c) may = call_failures (failed_in steps) y callers disk M h i a c may count
  up_failures i (Turn a) may = done_failures (failed_in steps) y callers disk M h a (caller_at callers a) refl may
  up_failures i (Fails a new) may = fault_failures (failed_in steps) y callers disk M h new a (caller_at callers a) refl may
  up_failures i (Looks a) may = record { none = h.none; once = h.once; told = h.told }
  up_failures i Trips may = h
  up_failures i Opens may = absurd may
  up_failures i (OpenFails why done) may = absurd may
  up_failures i _ may = record { none = λ alive. absurd alive; once = h.once; told = nothing_told (failed_in steps) }

down_failures : (steps : List Transition) (i : ℕ) (shape : Shape) (disk : Medium) (M : History) → Failures (failed_in steps) (Down shape disk) M → (step : Transition) → MayStep (Down shape disk) step
    → Failures (failed_in (step ∷ steps)) (state_after i (Down shape disk) step) (marks_of i (Down shape disk) step ++ M)
down_failures steps i shape disk M h Trips may = h
down_failures steps i shape disk M h Stops may = record { none = λ alive. absurd alive; once = h.once; told = nothing_told (failed_in steps) }
down_failures steps i shape disk M h (Crashes t) may = record { none = λ alive. absurd alive; once = h.once; told = nothing_told (failed_in steps) }
down_failures steps i shape disk M h Opens may = record { none = λ alive. refl; once = nothing_told 1; told = none_due shape.passes }
down_failures steps i shape disk M h (OpenFails why true) may = record { none = λ alive. absurd alive; once = h.once; told = nothing_told (failed_in steps) }
down_failures steps i shape disk M h (OpenFails why false) may = record { none = λ alive. absurd alive; once = h.once; told = nothing_told (failed_in steps) }
down_failures steps i shape disk M h _ may = absurd may

run_failures : (start : Start) (steps : List Transition) → IsRun (first_point start) steps → Failures (failed_in steps) (run (first_point start) steps).state (run (first_point start) steps).marks
run_failures start [] runs = record { none = λ alive. refl; once = nothing_told 1; told = none_due start.shape.passes }
run_failures start (step ∷ steps) runs = go p.state refl runs.0 (run_failures start steps runs.1)
  where
    p : Point
    p = run (first_point start) steps

    go : (w : State) → p.state ≡ w → MayStep w step → Failures (failed_in steps) w p.marks → Failures (failed_in (step ∷ steps)) (state_after (suc p.calls) w step) (marks_of (suc p.calls) w step ++ p.marks)
    go (Up service disk) is may h =
        up_failures steps service.yard service.callers disk p.marks h (subst (λ (w : State). Tells p.calls w p.marks) is (run_tells start steps runs.1)).open_calls.0 (suc p.calls) step may
    go (Down shape disk) is may h = down_failures steps (suc p.calls) shape disk p.marks h step may

pub fails_once : FailsOnce
fails_once start steps runs = let all = run_failures start steps runs in (all.once, all.told)

-- The marks of a run are lawful as a history is: they tell where a life goes on and which calls are open, as the state does.
use Rattle.lz_machine.specs.Marks as told
use Rattle.std.proofs.Common.{◌≡◌, ◌≢◌, ⊎_elim, inl, inr, ℕ, suc, true, false, ◌==◌, if◌then◌else◌, List, [], ◌∷◌, ◌++◌, Option, Some, None, refl}
use Rattle.std.proofs.lemmas.{Bool.Decides.{eqb_tells}, Option.{same_Some, none-some}}
use Rattle.lz_slot.specs.{Histories.{History}, declared.{command.Command.{Command}, history.HistoryEvent.TheVariants.{Call, Answer, Refused, Cut}}}
use Rattle.lz_disk.specs.Images.{Medium}
use Rattle.lz_judge.specs.Records.{IsLawful, IsOpen, MayFollow, actor_of, is_living}
use Rattle.lz_machine.specs.{declared.event.Reply.{Reply, TheVariants.{Yes}}, Marks.{IsOpenCall, IsTold}, Yards.{Shape}, Runs.{Caller, Service, State, Up}}
use Rattle.lz_machine.specs.Runs.{Down, Start, Transition, Calls, Turn, Fails, Looks, Trips, Stops, Crashes, CrashesIn, Opens, OpenFails, caller_at, reply_at}
use Rattle.lz_machine.specs.Runs.{after_turn, after_fault, state_after, HasTurn, HasFault, MayStep, mark_of, mark_of_turn, marks_of_turn, marks_of, run, IsRun}
use Rattle.lz_machine.{specs.Runs.{IsStart, first_point}, proofs.Theorem.Marks.{marks_tell}}

-- what ends one call leaves another open
still_open : (M : History) (j i : ℕ) → j ≢ i → IsOpen M i → (actor : ℕ) × ((if j == i then None else actor_of M i) ≡ Some actor)
still_open M j i other is = elim (eqb_tells j i) [
  | inl same ↦ absurd (other same.1)
  | inr apart ↦ (is.0, rw apart.0 is.1)
]

-- a call that is open in a run is open as the judge reads the marks
open_read : (M : History) (i actor : ℕ) → IsOpenCall M i actor → IsOpen M i
open_read (Call j b c ∷ M) i actor is = elim (eqb_tells j i) [
  | inl same ↦ (b, rw same.0 refl)
  | inr apart ↦ ⊎_elim (λ now. absurd (apart.1 now.0)) (λ before. let there = open_read M i actor before in (there.0, rw apart.0 there.1)) is
]
open_read (Answer j answer ∷ M) i actor is = still_open M j i is.0 (open_read M i actor is.1)
open_read (Refused j why ∷ M) i actor is = still_open M j i is.0 (open_read M i actor is.1)
open_read (Cut j why ∷ M) i actor is = still_open M j i is.0 (open_read M i actor is.1)
open_read _ i actor is = absurd is

-- what the judge reads of where a life goes on, and of which calls are open in it, is so in the state
abbrev Shown : State → History → Type 0
Shown (Up service disk) M = (is_living M ≡ true) × ((i a : ℕ) → actor_of M i ≡ Some a → IsOpenCall M i a)
Shown (Down shape disk) M = (is_living M ≡ false) × ((i a : ℕ) → actor_of M i ≢ Some a)

record Agrees (w : State) (M : History) : Type 0 where
  lawful : IsLawful M
  shown : Shown w M

-- what a reply ends
left_open : (M : History) (j i a : ℕ) → (if j == i then None else actor_of M i) ≡ Some a → (j ≢ i) × (actor_of M i ≡ Some a)
left_open M j i a is = elim (eqb_tells j i) [
  | inl same ↦ absurd (none-some a (rw same.0 at is))
  | inr apart ↦ (apart.1, rw apart.0 at is)
]

ends_open : (M : History) (j i a : ℕ) (reply : Reply) → ((k b : ℕ) → actor_of M k ≡ Some b → IsOpenCall M k b) → actor_of (mark_of j reply ∷ M) i ≡ Some a → IsOpenCall (mark_of j reply ∷ M) i a
ends_open M j i a Yes begun is = let left = left_open M j i a is in (left.0, begun i a left.1)
ends_open M j i a _ begun is = let left = left_open M j i a is in (left.0, begun i a left.1)

still_living : (M : History) (j : ℕ) (reply : Reply) → is_living M ≡ true → is_living (mark_of j reply ∷ M) ≡ true
still_living M j Yes is = is
still_living M j _ is = is

may_end : (M : History) (j : ℕ) (reply : Reply) → told.MayFollow (mark_of j reply) M → MayFollow (mark_of j reply) M
may_end M j Yes may = open_read M j may.0 may.1
may_end M j _ may = open_read M j may.0 may.1

module _ (service : Service) (disk : Medium) (M : History) (h : Agrees (Up service disk) M) where
  call_agrees : (n a : ℕ) (c : Command) → IsTold (Call n a c ∷ M) → Agrees (state_after n (Up service disk) (Calls a c)) (Call n a c ∷ M)
  call_agrees n a c tells = record {
    lawful = ((h.shown.0, (λ made. tells.0.0 made.0 made.1), (λ j begun. tells.0.1 j (h.shown.1 j a begun))), h.lawful);
    shown = (
      h.shown.0,
      λ i b is. elim (eqb_tells n i) [
        | inl same ↦ let now : Some a ≡ Some b = rw same.0 at is in inl (same.1, same_Some a b now)
        | inr apart ↦ inr (h.shown.1 i b (rw apart.0 at is))
      ],
    );
  }

  reply_agrees : (service' : Service) (disk' : Medium) (j : ℕ) (q : Option Reply) → IsTold (mark_of_turn j q ++ M) → Agrees (Up service' disk') (mark_of_turn j q ++ M)
  reply_agrees service' disk' j None tells = record { lawful = h.lawful; shown = h.shown }
  reply_agrees service' disk' j (Some reply) tells = record {
    lawful = (may_end M j reply tells.0, h.lawful);
    shown = (still_living M j reply h.shown.0, λ i a. ends_open M j i a reply h.shown.1);
  }

  turn_agrees : (a : ℕ) (q : Option Caller) → HasTurn service a q → IsTold (marks_of_turn q ++ M) → Agrees (after_turn service disk a q) (marks_of_turn q ++ M)
  turn_agrees a None may tells = absurd may
  turn_agrees a (Some caller) may tells = reply_agrees _ _ caller.number (reply_at caller.progress) tells

  fault_agrees : (new : Medium) (a : ℕ) (q : Option Caller) → HasFault service disk a q new → Agrees (after_fault service new a q) M
  fault_agrees new a None may = absurd may
  fault_agrees new a (Some caller) may = record { lawful = h.lawful; shown = h.shown }

  up_agrees : (n : ℕ) (step : Transition) → MayStep (Up service disk) step → IsTold (marks_of n (Up service disk) step ++ M)
      → Agrees (state_after n (Up service disk) step) (marks_of n (Up service disk) step ++ M)
  up_agrees n (Calls a c) may tells = call_agrees n a c tells
  up_agrees n (Turn a) may tells = turn_agrees a (caller_at service.callers a) may tells
  up_agrees n (Fails a new) may tells = fault_agrees new a (caller_at service.callers a) may
  up_agrees n (Looks a) may tells = record { lawful = h.lawful; shown = h.shown }
  up_agrees n Trips may tells = h
  up_agrees n Stops may tells = record { lawful = (tt, h.lawful); shown = (refl, λ i a is. none-some a is) }
  up_agrees n (Crashes t) may tells = record { lawful = (tt, h.lawful); shown = (refl, λ i a is. none-some a is) }
  up_agrees n (CrashesIn a t) may tells = record { lawful = (tt, h.lawful); shown = (refl, λ i b is. none-some b is) }
  up_agrees n Opens may tells = absurd may
  up_agrees n (OpenFails why done) may tells = absurd may

module _ (shape : Shape) (disk : Medium) (M : History) (h : Agrees (Down shape disk) M) where
  down_agrees : (n : ℕ) (step : Transition) → MayStep (Down shape disk) step → Agrees (state_after n (Down shape disk) step) (marks_of n (Down shape disk) step ++ M)
  down_agrees n Trips may = h
  down_agrees n Stops may = record { lawful = (tt, h.lawful); shown = (refl, λ i a is. none-some a is) }
  down_agrees n (Crashes t) may = record { lawful = (tt, h.lawful); shown = (refl, λ i a is. none-some a is) }
  down_agrees n Opens may = record { lawful = (h.shown.0, h.lawful); shown = (refl, λ i a is. absurd (none-some a is)) }
  down_agrees n (OpenFails why true) may = record { lawful = (tt, h.lawful); shown = h.shown }
  down_agrees n (OpenFails why false) may = record { lawful = (tt, h.lawful); shown = h.shown }
  down_agrees n _ may = absurd may

step_agrees : (n : ℕ) (w : State) (M : History) (step : Transition) → MayStep w step → Agrees w M → IsTold (marks_of n w step ++ M) → Agrees (state_after n w step) (marks_of n w step ++ M)
step_agrees n (Up service disk) M step may h tells = up_agrees service disk M h n step may tells
step_agrees n (Down shape disk) M step may h tells = down_agrees shape disk M h n step may

run_agrees : (start : Start) (steps : List Transition) → IsStart start → IsRun (first_point start) steps → Agrees (run (first_point start) steps).state (run (first_point start) steps).marks
run_agrees start [] is runs = record { lawful = tt; shown = (refl, λ i a is. absurd (none-some a is)) }
run_agrees start (step ∷ steps) is runs =
    let p = run (first_point start) steps in
    let q = run (first_point start) (step ∷ steps) in
    step_agrees (suc p.calls) p.state p.marks step runs.0 (run_agrees start steps is runs.1)
    (marks_tell start q.state q.marks q.trace (record { steps = step ∷ steps; starts = is; runs = runs; state = refl; marks = refl; trace = refl }))

pub run_lawful : (start : Start) (steps : List Transition) → IsStart start → IsRun (first_point start) steps → IsLawful (run (first_point start) steps).marks
run_lawful start steps is runs = (run_agrees start steps is runs).lawful

-- The place of a call in a run is that which its pass's own notes give.
use Rattle.std.proofs.lemmas.{Bool.{cases_eq, Decides.{nat_tests}}, List.{length-replicate}}
use Rattle.std.proofs.Common.{◌≡◌, ℕ, zero, suc, ◌≤◌, List, [], ◌∷◌, ◌++◌, length, refl, sym, ap, ◌∙◌, subst, arith, replicate, Option, Some, None}
use Rattle.lz_refinement.proofs.Vocabulary.{Command, set_of_pass, Medium, Event, Outcome, Reply, Progress, Shape, Yard, actor_at, line, line_failed, course}
use Rattle.lz_refinement.proofs.Vocabulary.{progress_after, begun, Start, State, Up, Service, Caller, Transition, Calls, Turn, Fails, Looks, Point, run, IsRun}
use Rattle.lz_refinement.proofs.Vocabulary.{MayStep, first_point, caller_at, next_event, state_after, reply_at, moved_on, after_turn, after_fault, looked, invoked}
use Rattle.lz_refinement.proofs.Vocabulary.{What, Note, steps_of, place, placed, unless_replied}
use Rattle.lz_refinement.specs.NotedRuns.{TellsTurn, TellsFault, TellsStep, TellsOne, TellsOf, ReadsAs, viewed}
use Rattle.lz_slot.proofs.Counted.{of_pass_same, of_pass_other, length-set_of_pass}
use Rattle.lz_machine.{specs.declared.event.Outcome.TheVariants.{Fault}, proofs.{Runs.Shape.{line_keeps_shape}, Frames.OneActor.{caller_range}}}
use Rattle.lz_board.{specs.declared.view.What.TheVariants.{Played, Found}, proofs.Upkeep.Splice.{own_step, other_step}}

goes_viewed : (r : Option Reply) (caller : Caller) (at : Progress) → viewed (moved_on r caller at) ≡ unless_replied r caller.command at
goes_viewed None caller at = refl
goes_viewed (Some reply) caller at = refl

-- a run has an open service, whose calls stand where the notes say
pub record Placed (start : Start) (p : Point) (ns : List Note) : Type 0 where
  pub service : Service
  pub disk : Medium
  pub state : p.state ≡ Up service disk
  pub shape : service.yard.shape ≡ start.shape
  pub count : length service.callers ≡ start.shape.passes
  pub places : (a : ℕ) → 1 ≤ a → viewed (caller_at service.callers a) ≡ place start.shape (steps_of a ns)

-- the calls after one of them has changed
module _ (shape : Shape) (callers : List (Option Caller)) (n : Note) (ns : List Note) (places : (a : ℕ) → 1 ≤ a → viewed (caller_at callers a) ≡ place shape (steps_of a ns)) where
  set_places : (b : ℕ) (x : Option Caller) → n.by ≡ b → 1 ≤ b → b ≤ length callers → viewed x ≡ placed shape n.what (place shape (steps_of b ns))
      → (a : ℕ) → 1 ≤ a → viewed (caller_at (set_of_pass callers b x) a) ≡ place shape (steps_of a (n ∷ ns))
  set_places b x by low high is a low_a = grind (arith, nat_tests, caller_at, set_of_pass, of_pass_same, steps_of, own_step, place, shape, of_pass_other, places, other_step, cases_eq)

  -- a note that changes no place
  same_places : ((at : Option (Command × Progress)) → placed shape n.what at ≡ at) → (a : ℕ) → 1 ≤ a → viewed (caller_at callers a) ≡ place shape (steps_of a (n ∷ ns))
  same_places same a low = grind (arith, places, own_step, other_step, cases_eq)

count_set : {X : Type 0} (xs : List X) (p : ℕ) (x : X) → length (set_of_pass xs p x) ≡ length xs
count_set xs p x = length-set_of_pass xs p x

-- a step that a note tells
module _ (start : Start) (service : Service) (disk : Medium) (n : Note) (ns : List Note) (shape : service.yard.shape ≡ start.shape) (count : length service.callers ≡ start.shape.passes)
    (places : (a : ℕ) → 1 ≤ a → viewed (caller_at service.callers a) ≡ place start.shape (steps_of a ns)) where
  -- where a call of the actor b stands after an event with this outcome
  after_outcome : (b : ℕ) (caller : Caller) (y : Yard) (e : Event) (o : Outcome) → caller_at service.callers b ≡ Some caller → y.shape ≡ start.shape → 1 ≤ b → n.what ≡ Played e o
      → viewed (moved_on (reply_at caller.progress) caller (progress_after y.shape caller.command caller.progress o)) ≡ placed start.shape n.what (place start.shape (steps_of b ns))
  after_outcome b caller y e o is same low what = grind (arith, goes_viewed, places)

  record After (w : State) : Type 0 where
    service' : Service
    disk' : Medium
    state : w ≡ Up service' disk'
    shape' : service'.yard.shape ≡ start.shape
    count' : length service'.callers ≡ start.shape.passes
    places' : (a : ℕ) → 1 ≤ a → viewed (caller_at service'.callers a) ≡ place start.shape (steps_of a (n ∷ ns))

  goes : (b : ℕ) (new : Medium) (caller : Caller) (y : Yard) (e : Event) (o : Outcome) → caller_at service.callers b ≡ Some caller → y.shape ≡ start.shape → n.by ≡ b → n.what ≡ Played e o
      → After (Up (record { yard = y; callers = set_of_pass service.callers b (moved_on (reply_at caller.progress) caller (progress_after y.shape caller.command caller.progress o)) }) new)
  goes b new caller y e o is same by what =
      let range = caller_range service.callers b caller is in
      let x = moved_on (reply_at caller.progress) caller (progress_after y.shape caller.command caller.progress o) in
      record {
        service' = record { yard = y; callers = set_of_pass service.callers b x };
        disk' = new;
        state = refl;
        shape' = same;
        count' = count_set service.callers b x ∙ count;
        places' = set_places start.shape service.callers n ns places b x by range.0 range.1 (after_outcome b caller y e o is same range.0 what);
      }

  turn_goes : (b : ℕ) (q : Option Caller) → caller_at service.callers b ≡ q → n.by ≡ b → TellsTurn service b q n → After (after_turn service disk b q)
  turn_goes b None is by t = absurd t
  turn_goes b (Some caller) is by t =
      let e = next_event service.yard caller in
      goes b _ caller (line service.yard b e).0 e (line service.yard b e).1 is (line_keeps_shape (course service.yard b e) service.yard (actor_at service.yard b) b e ∙ shape) by t.0

  fault_goes : (b : ℕ) (new : Medium) (q : Option Caller) → caller_at service.callers b ≡ q → n.by ≡ b → TellsFault service q n → After (after_fault service new b q)
  fault_goes b new None is by t = absurd t
  fault_goes b new (Some caller) is by t =
      let e = next_event service.yard caller in
      goes b new caller (line_failed service.yard b e).0 e Fault is shape by t.0

  step_goes : (i : ℕ) (step : Transition) → MayStep (Up service disk) step → TellsStep (Up service disk) n step → After (state_after i (Up service disk) step)
  step_goes i (Calls b c) may t =
      let x = Some (record { number = i; command = c; progress = begun service.yard.vault.format c }) in
      let range : b ≤ length service.callers = let h = may.0.1 in let s = ap (λ (s : Shape). s.passes) shape in omega (arith, h, s, count) in
      record {
        service' = record { yard = invoked service.yard b c; callers = set_of_pass service.callers b x };
        disk' = disk;
        state = refl;
        shape' = shape;
        count' = count_set service.callers b x ∙ count;
        places' = set_places start.shape service.callers n ns places b x t.0 may.0.0 range (ap (λ w. placed start.shape w (place start.shape (steps_of b ns))) (sym t.1));
      }
  step_goes i (Turn b) may t = turn_goes b (caller_at service.callers b) refl t.0 t.1
  step_goes i (Fails b new) may t = fault_goes b new (caller_at service.callers b) refl t.0 t.1
  step_goes i _ may t = absurd t

first_callers : (n a : ℕ) → viewed (caller_at (replicate n None) a) ≡ None
first_callers n zero = refl
first_callers zero (suc i) = refl
first_callers (suc n) (suc zero) = refl
first_callers (suc n) (suc (suc i)) = first_callers n (suc i)

-- looks change no call
looks_stand : (start : Start) (p : Point) (k q : ℕ) (before : List Transition) (n : Note) (ns : List Note) → ((at : Option (Command × Progress)) → placed start.shape n.what at ≡ at) → Placed start (run p before) ns → Placed start (run p (replicate k (Looks q) ++ before)) (n ∷ ns)
looks_stand start p zero q before n ns same h = record { service = h.service; disk = h.disk; state = h.state; shape = h.shape; count = h.count; places = same_places start.shape h.service.callers n ns h.places same }
looks_stand start p (suc k) q before n ns same h =
    let r = looks_stand start p k q before n ns same h in
    record {
      service = record { yard = looked r.service.yard q; callers = r.service.callers };
      disk = r.disk;
      state = ap (λ w. state_after (suc (run p (replicate k (Looks q) ++ before)).calls) w (Looks q)) r.state;
      shape = r.shape;
      count = r.count;
      places = r.places;
    }

pub run_before : (p : Point) (later before : List Transition) → IsRun p (later ++ before) → IsRun p before
run_before p [] before runs = runs
run_before p (step ∷ later) before runs = run_before p later before runs.1

pub place_reads : (start : Start) (ns : List Note) (steps : List Transition) → IsRun (first_point start) steps → ReadsAs (first_point start) ns steps → Placed start (run (first_point start) steps) ns
place_reads start [] steps runs reads = subst (λ (l : List Transition). Placed start (run (first_point start) l) []) (sym reads) record {
  service = _;
  disk = _;
  state = refl;
  shape = refl;
  count = length-replicate start.shape.passes None;
  places = λ a low. first_callers start.shape.passes a;
}
place_reads start (n ∷ ns) steps runs (new, before, is, tells, rest) =
    let p = first_point start in
    let runs' = subst (IsRun p) is runs in
    let h = place_reads start ns before (run_before p new before runs') rest in
    subst (λ (l : List Transition). Placed start (run p l) (n ∷ ns)) (sym is) (go n.what refl h tells)
  where
    one : Placed start (run (first_point start) before) ns → TellsOne (run (first_point start) before).state n new → Placed start (run (first_point start) (new ++ before)) (n ∷ ns)
    one h t =
        let p = first_point start in
        let all : IsRun p (t.step ∷ before) = subst (λ (l : List Transition). IsRun p (l ++ before)) t.steps (subst (IsRun p) is runs) in
        let may = subst (λ (w : State). MayStep w t.step) h.state all.0 in
        let told = subst (λ (w : State). TellsStep w n t.step) h.state t.tells in
        let r = step_goes start h.service h.disk n ns h.shape h.count h.places (suc (run p before).calls) t.step may told in
        subst (λ (l : List Transition). Placed start (run p (l ++ before)) (n ∷ ns)) (sym t.steps) record {
          service = r.service';
          disk = r.disk';
          state = ap (λ w. state_after (suc (run p before).calls) w t.step) h.state ∙ r.state;
          shape = r.shape';
          count = r.count';
          places = r.places';
        }

    go : (what : What) → n.what ≡ what → Placed start (run (first_point start) before) ns → TellsOf (run (first_point start) before).state n what new → Placed start (run (first_point start) (new ++ before)) (n ∷ ns)
    go (Found q v) same h t = grind (arith, looks_stand, t.2.steps, t.2.looks, start.shape)
    go _ same h t = one h t

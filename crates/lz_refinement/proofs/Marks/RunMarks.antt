-- The marks of a run are those that its notes show.
use Rattle.std.proofs.{lemmas.{Bool.{cases_eq, Decides.{nat_tests}}, Option.{same_Some, none-some}}, Common.{◌≡◌, ◌≢◌, ℕ, zero, suc, ◌≤◌, List, [], ◌∷◌, ◌++◌}}
use Rattle.std.proofs.Common.{length, refl, sym, ap, ◌∙◌, subst, arith, eq-eqb, ne_eqb, if◌then◌else◌, replicate, Option, Some, None}
use Rattle.lz_refinement.proofs.Vocabulary.{Command, set_of_pass, Medium, Event, Outcome, Reply, Progress, Start, State, Up, Down, Service, Caller, Transition, Calls}
use Rattle.lz_refinement.proofs.Vocabulary.{Turn, Fails, Looks, Point, run, IsRun, MayStep, HasFault, first_point, caller_at, next_event, state_after}
use Rattle.lz_refinement.proofs.Vocabulary.{calls_made_after, marks_of, marks_of_turn, mark_of_turn, reply_at, moved_on, after_turn, after_fault, line, line_failed}
use Rattle.lz_refinement.proofs.{Vocabulary.{progress_after, Shape, What, Note, place, steps_of}, Reading.CallPlaces.{Placed, place_reads, run_before}}
use Rattle.lz_refinement.specs.NotedRuns.{TellsTurn, TellsFault, TellsStep, TellsOne, TellsOf, ReadsAs, viewed}
use Rattle.lz_refinement.specs.Marks.{calls_with, calls_in, number_with, last_call_number, reply_in, marks_with, marks_in}
use Rattle.lz_slot.{specs.declared.history.HistoryEvent.TheVariants.{Call}, proofs.Counted.{of_pass_same, of_pass_other}}
use Rattle.lz_machine.proofs.{Frames.OneActor.{caller_range}, Runs.CallerTable.{fault_no_reply}}
use Rattle.lz_board.specs.declared.view.What.TheVariants.{Called, Played, Found}

-- a step of another pass, or one that begins no call, leaves a pass's number
pub other_number : (p : ℕ) (n : Note) (ns : List Note) → n.by ≢ p → last_call_number p (n ∷ ns) ≡ last_call_number p ns
other_number p n ns away = grind (arith, nat_tests, ne_eqb)

-- the open calls have the numbers that the notes give them
abbrev HasNumbers : State → List Note → Type 0
HasNumbers (Up service disk) ns = (a : ℕ) (caller : Caller) → caller_at service.callers a ≡ Some caller → caller.number ≡ last_call_number a ns
HasNumbers (Down shape disk) ns = Unit {0}

-- the run has shown what the notes show
record Marked (start : Start) (p : Point) (ns : List Note) : Type 0 where
  calls : p.calls ≡ calls_in ns
  marks : p.marks ≡ marks_in start.shape ns
  numbers : HasNumbers p.state ns

-- the numbers after one of the calls has changed
set_numbers : (callers : List (Option Caller)) (n : Note) (ns : List Note) → ((a : ℕ) (caller : Caller) → caller_at callers a ≡ Some caller → caller.number ≡ last_call_number a ns)
    → (b : ℕ) (x : Option Caller) → n.by ≡ b → 1 ≤ b → b ≤ length callers → ((caller : Caller) → x ≡ Some caller → caller.number ≡ last_call_number b (n ∷ ns))
    → (a : ℕ) (caller : Caller) → caller_at (set_of_pass callers b x) a ≡ Some caller → caller.number ≡ last_call_number a (n ∷ ns)
set_numbers callers n ns numbers b x by low high new a caller at = grind (arith, of_pass_same, of_pass_other, other_number, cases_eq)

-- a step that a note tells
module _ (start : Start) (service : Service) (disk : Medium) (n : Note) (ns : List Note) (count : length service.callers ≡ service.yard.shape.passes)
    (places : (a : ℕ) → 1 ≤ a → viewed (caller_at service.callers a) ≡ place start.shape (steps_of a ns))
    (numbers : (a : ℕ) (caller : Caller) → caller_at service.callers a ≡ Some caller → caller.number ≡ last_call_number a ns) where
  record Stepped (i : ℕ) (step : Transition) : Type 0 where
    shown : marks_of i (Up service disk) step ≡ marks_with start.shape n.by n.what ns
    made : calls_made_after (calls_in ns) step ≡ calls_in (n ∷ ns)
    now : HasNumbers (state_after i (Up service disk) step) (n ∷ ns)

  -- the place of an open call
  placed_call : (b : ℕ) (caller : Caller) → caller_at service.callers b ≡ Some caller → reply_in (place start.shape (steps_of b ns)) ≡ reply_at caller.progress
  placed_call b caller is = ap reply_in (sym (places b (caller_range service.callers b caller is).0) ∙ ap viewed is)

  -- what an event of the actor b shows
  event_shows : (b : ℕ) (caller : Caller) (e : Event) (o : Outcome) → caller_at service.callers b ≡ Some caller → n.by ≡ b → n.what ≡ Played e o
      → mark_of_turn caller.number (reply_at caller.progress) ≡ marks_with start.shape n.by n.what ns
  event_shows b caller e o is by what = grind (arith, placed_call)

  event_made : (e : Event) (o : Outcome) → n.what ≡ Played e o → calls_in ns ≡ calls_in (n ∷ ns)
  event_made e o what = ap (λ w. calls_with w (calls_in ns)) (sym what)

  -- and the numbers after it
  event_open : (b : ℕ) (caller : Caller) (e : Event) (o : Outcome) (reply : Option Reply) (at : Progress) → caller_at service.callers b ≡ Some caller → n.by ≡ b → n.what ≡ Played e o
      → (a : ℕ) (other : Caller) → caller_at (set_of_pass service.callers b (moved_on reply caller at)) a ≡ Some other → other.number ≡ last_call_number a (n ∷ ns)
  event_open b caller e o reply at is by what =
      let range = caller_range service.callers b caller is in
      set_numbers service.callers n ns numbers b (moved_on reply caller at) by range.0 range.1 (new reply)
    where
      kept : last_call_number b ns ≡ last_call_number b (n ∷ ns)
      kept = ap (λ w. number_with b n.by w (calls_in ns) (last_call_number b ns)) (sym what)

      new : (reply : Option Reply) (other : Caller) → moved_on reply caller at ≡ Some other → other.number ≡ last_call_number b (n ∷ ns)
      new (Some r) other same = absurd (none-some _ same)
      new None other same = ap (λ (k : Caller). k.number) (sym (same_Some _ _ same)) ∙ numbers b caller is ∙ kept

  turn_steps : (i b : ℕ) (q : Option Caller) → caller_at service.callers b ≡ q → n.by ≡ b → TellsTurn service b q n
      → (marks_of_turn q ≡ marks_with start.shape n.by n.what ns) × (calls_in ns ≡ calls_in (n ∷ ns)) × HasNumbers (after_turn service disk b q) (n ∷ ns)
  turn_steps i b None is by t = absurd t
  turn_steps i b (Some caller) is by t =
      let e = next_event service.yard caller in
      let made = line service.yard b e in (
        event_shows b caller e made.1 is by t.0,
        event_made e made.1 t.0,
        event_open b caller e made.1 (reply_at caller.progress) (progress_after made.0.shape caller.command caller.progress made.1) is by t.0,
      )

  fault_steps : (b : ℕ) (new : Medium) (q : Option Caller) → caller_at service.callers b ≡ q → n.by ≡ b → HasFault service disk b q new → TellsFault service q n
      → ([] ≡ marks_with start.shape n.by n.what ns) × (calls_in ns ≡ calls_in (n ∷ ns)) × HasNumbers (after_fault service new b q) (n ∷ ns)
  fault_steps b new None is by may t = absurd t
  fault_steps b new (Some caller) is by may t =
      let e = next_event service.yard caller in
      let none = fault_no_reply service.yard b caller.command caller.progress disk new may in (
        ap (mark_of_turn caller.number) (sym none) ∙ event_shows b caller e _ is by t.0,
        event_made e _ t.0,
        event_open b caller e _ (reply_at caller.progress) (progress_after service.yard.shape caller.command caller.progress (line_failed service.yard b e).1) is by t.0,
      )

  call_steps : (i b : ℕ) (c : Command) → i ≡ suc (calls_in ns) → MayStep (Up service disk) (Calls b c) → TellsStep (Up service disk) n (Calls b c) → Stepped i (Calls b c)
  call_steps i b c next may t =
      let range : b ≤ length service.callers = let h = may.0.1 in omega (arith, h, count) in
      record {
        shown = ap (λ k. Call k b c ∷ []) next ∙ ap (λ (x : ℕ × What). marks_with start.shape x.0 x.1 ns) (λ j. (sym t.0 j, sym t.1 j));
        made = ap (λ w. calls_with w (calls_in ns)) (sym t.1);
        now = set_numbers service.callers n ns numbers b _ t.0 may.0.0 range
            (λ caller same. ap (λ (k : Caller). k.number) (sym (same_Some _ _ same)) ∙ next ∙ sym (own b t.0 t.1));
      }
    where
      own : (b : ℕ) → n.by ≡ b → n.what ≡ Called c service.yard.vault.format → last_call_number b (n ∷ ns) ≡ suc (calls_in ns)
      own b by what =
          ap (λ w. number_with b n.by w (calls_in ns) (last_call_number b ns)) what
          ∙ ap (λ x. if x then suc (calls_in ns) else last_call_number b ns) (eq-eqb n.by b by)

  step_marks : (i : ℕ) (step : Transition) → i ≡ suc (calls_in ns) → MayStep (Up service disk) step → TellsStep (Up service disk) n step → Stepped i step
  step_marks i (Calls b c) next may t = call_steps i b c next may t
  step_marks i (Turn b) next may t = let r = turn_steps i b (caller_at service.callers b) refl t.0 t.1 in record { shown = r.0; made = r.1; now = r.2 }
  step_marks i (Fails b new) next may t = let r = fault_steps b new (caller_at service.callers b) refl t.0 may t.1 in record { shown = r.0; made = r.1; now = r.2 }
  step_marks i _ next may t = absurd t

-- looks show nothing
looks_marked : (start : Start) (p : Point) (k q : ℕ) (before : List Transition) (ns : List Note) → Marked start (run p before) ns → Marked start (run p (replicate k (Looks q) ++ before)) ns
looks_marked start p zero q before ns h = h
looks_marked start p (suc k) q before ns h = grind (arith, nat_tests, looks_marked start p k q before ns h, run, marks_of, state_after)

-- and the note of what was found shows nothing
found_marked : (start : Start) (p : Point) (n : Note) (ns : List Note) (q v : ℕ) → n.what ≡ Found q v → Marked start p ns → Marked start p (n ∷ ns)
found_marked start p n ns q v what h = grind (arith, nat_tests)

first_none : (n a : ℕ) → caller_at (replicate n None) a ≡ None
first_none n zero = refl
first_none zero (suc i) = refl
first_none (suc n) (suc zero) = refl
first_none (suc n) (suc (suc i)) = first_none n (suc i)

reads_marked : (start : Start) (ns : List Note) (steps : List Transition) → IsRun (first_point start) steps → ReadsAs (first_point start) ns steps → Marked start (run (first_point start) steps) ns
reads_marked start [] steps runs reads = grind (arith, none-some, first_none)
reads_marked start (n ∷ ns) steps runs (new, before, is, tells, rest) =
    let p = first_point start in
    let past = run_before p new before (subst (IsRun p) is runs) in
    subst (λ (l : List Transition). Marked start (run p l) (n ∷ ns)) (sym is) (go n.what refl (place_reads start ns before past rest) (reads_marked start ns before past rest) tells)
  where
    one : Placed start (run (first_point start) before) ns → Marked start (run (first_point start) before) ns → TellsOne (run (first_point start) before).state n new → Marked start (run (first_point start) (new ++ before)) (n ∷ ns)
    one h m t =
        let p = first_point start in
        let here = run p before in
        let all : IsRun p (t.step ∷ before) = subst (λ (l : List Transition). IsRun p (l ++ before)) t.steps (subst (IsRun p) is runs) in
        let may = subst (λ (w : State). MayStep w t.step) h.state all.0 in
        let told = subst (λ (w : State). TellsStep w n t.step) h.state t.tells in
        let numbers = subst (λ (w : State). HasNumbers w ns) h.state m.numbers in
        let count = h.count ∙ ap (λ (s : Shape). s.passes) (sym h.shape) in
        let r = step_marks start h.service h.disk n ns count h.places numbers (suc here.calls) t.step (ap suc m.calls) may told in
        subst (λ (l : List Transition). Marked start (run p (l ++ before)) (n ∷ ns)) (sym t.steps) record {
          calls = ap (λ k. calls_made_after k t.step) m.calls ∙ r.made;
          marks =
              ap (λ w. marks_of (suc here.calls) w t.step ++ here.marks) h.state
              ∙ ap (λ M. M ++ here.marks) r.shown
              ∙ ap (λ M. marks_with start.shape n.by n.what ns ++ M) m.marks;
          numbers = subst (λ (w : State). HasNumbers (state_after (suc here.calls) w t.step) (n ∷ ns)) (sym h.state) r.now;
        }

    go : (what : What) → n.what ≡ what → Placed start (run (first_point start) before) ns → Marked start (run (first_point start) before) ns → TellsOf (run (first_point start) before).state n what new → Marked start (run (first_point start) (new ++ before)) (n ∷ ns)
    go (Found q v) same h m t =
        subst (λ (l : List Transition). Marked start (run (first_point start) (l ++ before)) (n ∷ ns)) (sym t.2.steps)
        (found_marked start (run (first_point start) (replicate t.2.looks (Looks q) ++ before)) n ns q v same (looks_marked start (first_point start) t.2.looks q before ns m))
    go _ same h m t = one h m t

-- the marks of the run are those of the notes, and so is the count of its calls
pub marks_read : (start : Start) (ns : List Note) (steps : List Transition) → IsRun (first_point start) steps → ReadsAs (first_point start) ns steps
    → ((run (first_point start) steps).marks ≡ marks_in start.shape ns) × ((run (first_point start) steps).calls ≡ calls_in ns)
marks_read start ns steps runs reads = let m = reads_marked start ns steps runs reads in (m.marks, m.calls)

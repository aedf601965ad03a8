-- The history that the lock's notes show is that of a run, and each of its calls was made by a pass of the board.
use Rattle.std.proofs.Common.{arith, ◌≡◌, ◌⊎◌, inl, inr, ℕ, ◌≤◌, List, [], ◌∷◌, ◌++◌, length, refl, sym, ap, ◌∙◌, subst, Option, Some, None}
use Rattle.std.proofs.lemmas.Bool.Decides.{nat_tests}
use Rattle.lz_refinement.proofs.Vocabulary.{Device, Medium, History, Reply, HaltLasts, IsTold, Start, State, Up, Service, Caller, Transition, Calls, Turn, Fails, run}
use Rattle.lz_refinement.proofs.Vocabulary.{IsRun, MayStep, first_point, caller_at, mark_of, mark_of_turn, Shape, Yard, What, Note, place, shape_of_sizes, steps_of}
use Rattle.lz_refinement.proofs.{Vocabulary.{trace_of, BoardId}, Reading.CallPlaces.{place_reads, run_before}, Marks.RunningSet.{locked_reached, locked_sizes}}
use Rattle.lz_refinement.specs.{NotedRuns.{TellsTurn, TellsFault, TellsStep, TellsOne, TellsOf, ReadsAs}, Holds.{IsLocked}, Marks.{marks_in, AreOfPasses}}
use Rattle.lz_machine.{specs.declared.event.Reply.TheVariants.{Yes}, proofs.{Frames.OneActor.{caller_range}, Theorem.LateCalls.{halts_last}}}
use Rattle.lz_machine.proofs.Theorem.Marks.{marks_tell}
use Rattle.lz_board.specs.declared.view.What.TheVariants.{Found}

-- the note is by one of the passes
abbrev pub InRange : ℕ → Note → Type 0
InRange passes n = (1 ≤ n.by) × (n.by ≤ passes)

-- or it is of a pin word that was found
abbrev pub AreByPasses : ℕ → List Note → Type 0
AreByPasses passes [] = Unit {0}
AreByPasses passes (n ∷ ns) = (InRange passes n ⊎ ((q : ℕ) × (v : ℕ) × (n.what ≡ Found q v))) × AreByPasses passes ns

-- a step that a note tells is one of an actor
module _ (service : Service) (disk : Medium) (n : Note) (count : length service.callers ≡ service.yard.shape.passes) where
  abbrev passes : ℕ
  passes = service.yard.shape.passes

  of_caller : (a : ℕ) (caller : Caller) → n.by ≡ a → caller_at service.callers a ≡ Some caller → InRange passes n
  of_caller a caller by is = subst (λ p. (1 ≤ p) × (p ≤ passes)) (sym by) (subst (λ m. (1 ≤ a) × (a ≤ m)) count (caller_range service.callers a caller is))

  of_turn : (a : ℕ) (q : Option Caller) → caller_at service.callers a ≡ q → n.by ≡ a → TellsTurn service a q n → InRange passes n
  of_turn a None is by t = absurd t
  of_turn a (Some caller) is by t = of_caller a caller by is

  of_fault : (a : ℕ) (q : Option Caller) → caller_at service.callers a ≡ q → n.by ≡ a → TellsFault service q n → InRange passes n
  of_fault a None is by t = absurd t
  of_fault a (Some caller) is by t = of_caller a caller by is

  step_by : (step : Transition) → MayStep (Up service disk) step → TellsStep (Up service disk) n step → InRange passes n
  step_by (Calls a c) may t = subst (λ p. (1 ≤ p) × (p ≤ passes)) (sym t.0) may.0
  step_by (Turn a) may t = of_turn a (caller_at service.callers a) refl t.0 t.1
  step_by (Fails a new) may t = of_fault a (caller_at service.callers a) refl t.0 t.1
  step_by _ may t = absurd t

-- replies make no call
module _ (passes : ℕ) (M : History) (are : AreOfPasses passes M) where
  reply_of_passes : (i : ℕ) (reply : Reply) → AreOfPasses passes (mark_of i reply ∷ M)
  reply_of_passes i Yes = are
  reply_of_passes i _ = are

  turn_of_passes : (i : ℕ) (reply : Option Reply) → AreOfPasses passes (mark_of_turn i reply ++ M)
  turn_of_passes i None = are
  turn_of_passes i (Some reply) = reply_of_passes i reply

pub notes_by_passes : (start : Start) (ns : List Note) (steps : List Transition) → IsRun (first_point start) steps → ReadsAs (first_point start) ns steps → AreByPasses start.shape.passes ns
notes_by_passes start [] steps runs reads = tt
notes_by_passes start (n ∷ ns) steps runs (new, before, is, tells, rest) = (go n.what refl tells, notes_by_passes start ns before past rest)
  where
    past : IsRun (first_point start) before
    past = run_before (first_point start) new before (subst (IsRun (first_point start)) is runs)

    made : TellsOne (run (first_point start) before).state n new → InRange start.shape.passes n
    made t =
        let p = first_point start in
        let h = place_reads start ns before past rest in
        let all : IsRun p (t.step ∷ before) = subst (λ (l : List Transition). IsRun p (l ++ before)) t.steps (subst (IsRun p) is runs) in
        let may = subst (λ (w : State). MayStep w t.step) h.state all.0 in
        let told = subst (λ (w : State). TellsStep w n t.step) h.state t.tells in
        subst (λ (s : Shape). InRange s.passes n) h.shape (step_by h.service h.disk n (h.count ∙ ap (λ (s : Shape). s.passes) (sym h.shape)) t.step may told)

    go : (what : What) → n.what ≡ what → TellsOf (run (first_point start) before).state n what new → InRange start.shape.passes n ⊎ ((q : ℕ) × (v : ℕ) × (n.what ≡ Found q v))
    go (Found q v) same t = inr (q, v, same)
    go _ same t = inl (made t)

passes_read : (shape : Shape) (passes : ℕ) (ns : List Note) → AreByPasses passes ns → AreOfPasses passes (marks_in shape ns)
passes_read shape passes [] are = tt
passes_read shape passes (n ∷ ns) are = grind (arith, nat_tests, passes_read shape passes ns are.1, turn_of_passes, place, steps_of)

module _ (b : BoardId) (ns : List Note) (y : Yard) (dev : Device) (locked : IsLocked b ns y dev) where
  shape_is : locked.tied.start.shape ≡ shape_of_sizes b.sizes
  shape_is = ap shape_of_sizes (sym (locked_sizes b ns y dev locked))

  -- the marks stand in the order of a run
  pub history_told : IsTold (marks_in (shape_of_sizes b.sizes) ns)
  history_told = marks_tell locked.tied.start (Up locked.tied.service locked.tied.medium) (marks_in (shape_of_sizes b.sizes) ns) (trace_of b.opened ns) (locked_reached b ns y dev locked)

  -- a call that was made after another was cut off isn't answered
  pub history_halts : HaltLasts (marks_in (shape_of_sizes b.sizes) ns)
  history_halts = halts_last locked.tied.start (Up locked.tied.service locked.tied.medium) (marks_in (shape_of_sizes b.sizes) ns) (trace_of b.opened ns) (locked_reached b ns y dev locked)

  -- and each call is one of a pass
  pub history_passes : AreOfPasses b.sizes.passes (marks_in (shape_of_sizes b.sizes) ns)
  history_passes = grind (arith, nat_tests, shape_is, passes_read, notes_by_passes)

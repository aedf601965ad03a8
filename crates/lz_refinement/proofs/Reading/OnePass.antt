-- In a set of one pass nothing is published but for it, and so it has seen the whole trace.
use Rattle.std.proofs.{lemmas.Bool.Decides.{nat_tests}, Common.{◌≡◌, ◌⊎◌, inl, inr, ℕ, ◌≤◌, List, [], ◌∷◌, ◌++◌, length, length-append, refl, sym, ap, ◌∙◌}}
use Rattle.std.proofs.Common.{subst, arith, append_assoc, Option, Some, None}
use Rattle.lz_refinement.proofs.Vocabulary.{Medium, Device, Publishing, Trace, Stage, Actor, Course, Event, Shape, Yard, actor_at, cell_at, course, line_publishes}
use Rattle.lz_refinement.proofs.Vocabulary.{published_on, publishes, settling, Start, State, Up, Service, Caller, Transition, Calls, Turn, Fails, run, IsRun}
use Rattle.lz_refinement.proofs.Vocabulary.{first_point, caller_at, next_event, Sizes, What, Note, Part, Extends, as_list, trace_of, Quiet, Knows, BoardId}
use Rattle.lz_refinement.{proofs.Reading.{CallPlaces.{place_reads, run_before}, OwnTraces.{own_append}}, specs.OnePass.{AreOwn, OnlyOwn}}
use Rattle.lz_refinement.specs.{NotedRuns.{TellsTurn, TellsStep, TellsOf, ReadsAs}, Holds.{IsLocked}}
use Rattle.lz_vault.specs.declared.vault.Stage.TheVariants.{Open}
use Rattle.lz_machine.specs.{declared.{course.Course.TheVariants.{Plays}, event.Event.TheVariants.{Link, Mark, Settle, Unlink}}, Runs.{shape_of as shape_in}}
use Rattle.lz_machine.proofs.{Frames.OneActor.{caller_range}, Runs.Shape.{run_keeps_shape}}
use Rattle.lz_board.{specs.declared.view.What.TheVariants.{Found}, proofs.Upkeep.{Growth.{extends_both, extends_trans}, Splice.{low_or_not, least_load}}}

-- the note publishes nothing, or is by one of these passes and publishes for it
abbrev IsByPass : ℕ → Note → Type 0
IsByPass passes n = (n.published ≡ None) ⊎ ((1 ≤ n.by) × (n.by ≤ passes) × AreOwn n.by (as_list n.published))

abbrev AreByPasses : ℕ → List Note → Type 0
AreByPasses passes [] = Unit {0}
AreByPasses passes (n ∷ ns) = IsByPass passes n × AreByPasses passes ns

-- what an actor's event changes is changed for it
settling_own : (a : ℕ) (stage : Stage) (s : ℕ) → AreOwn a (settling stage s)
settling_own a Open s = tt
settling_own a _ s = tt

event_own : (y : Yard) (actor : Actor) (a : ℕ) (e : Event) → AreOwn a (publishes y actor a e)
event_own y actor a Link = (refl, tt)
event_own y actor a Mark = (refl, tt)
event_own y actor a Unlink = (refl, tt)
event_own y actor a (Settle s) = settling_own a (cell_at y s).stage s
event_own y actor a e = tt

line_own : (y : Yard) (a : ℕ) (e : Event) → AreOwn a (line_publishes y a e)
line_own y a e = go (course y a e)
  where
    go : (k : Course) → AreOwn a (published_on k y (actor_at y a) a e)
    go Plays = event_own y (actor_at y a) a e
    go k = tt

-- a step publishes where it is a call's turn
step_by : (service : Service) (disk : Medium) (n : Note) (step : Transition) → TellsStep (Up service disk) n step → IsByPass (length service.callers) n
step_by service disk n (Calls a c) t = inl t.2
step_by service disk n (Turn a) t = go (caller_at service.callers a) refl t.1
  where
    go : (q : Option Caller) → caller_at service.callers a ≡ q → TellsTurn service a q n → IsByPass (length service.callers) n
    go None is t = absurd t
    go (Some caller) is u =
        let range = caller_range service.callers a caller is in
        let own : AreOwn a (as_list n.published) = subst (AreOwn a) (sym u.1) (line_own service.yard a (next_event service.yard caller)) in
        inr (subst (λ (p : ℕ). (1 ≤ p) × (p ≤ length service.callers) × AreOwn p (as_list n.published)) (sym t.0) (range.0, range.1, own))
step_by service disk n (Fails a new) t = grind (arith, nat_tests, caller_at)
step_by service disk n _ t = absurd t

passes_read : (start : Start) (ns : List Note) (steps : List Transition) → IsRun (first_point start) steps → ReadsAs (first_point start) ns steps → AreByPasses start.shape.passes ns
passes_read start [] steps runs reads = tt
passes_read start (n ∷ ns) steps runs (new, before, is, tells, rest) = (one n.what tells, passes_read start ns before past rest)
  where
    past : IsRun (first_point start) before
    past = run_before (first_point start) new before (subst (IsRun (first_point start)) is runs)

    one : (what : What) → TellsOf (run (first_point start) before).state n what new → IsByPass start.shape.passes n
    one (Found q v) t = inl t.1
    one _ t =
        let h = place_reads start ns before past rest in
        subst (λ (k : ℕ). IsByPass k n) h.count (step_by h.service h.disk n t.step (subst (λ (w : State). TellsStep w n t.step) h.state t.tells))

-- where all steps of the one pass come before the trace is longer than n, it isn't
one_long : (opened : Trace) (n : ℕ) (ns : List Note) → AreByPasses 1 ns → Quiet opened 1 n ns → length opened ≤ n → length (trace_of opened ns) ≤ n
one_long opened n [] are quiet least = least
one_long opened n (x ∷ xs) are quiet least = grind (arith, nat_tests, as_list, trace_of, one_long opened n xs, low_or_not)

-- nothing is more where there is no more of it
no_more : (more P : Trace) → length (more ++ P) ≤ length P → more ++ P ≡ P
no_more [] P le = refl
no_more (x ∷ xs) P le = let l = length-append xs P in absurd (omega (arith, le, l))

-- where all is published by the one pass, the trace grows by its changes alone
only_own : (opened : Trace) (ns : List Note) → AreByPasses 1 ns → OnlyOwn 1 opened (trace_of opened ns)
only_own opened [] are = record { since = []; goes_on = refl; own = tt }
only_own opened (n ∷ ns) are =
    let rest = only_own opened ns are.1 in
    record {
      since = as_list n.published ++ rest.since;
      goes_on = ap (λ (P : Trace). as_list n.published ++ P) rest.goes_on ∙ sym (append_assoc (as_list n.published) rest.since opened);
      own = own_append 1 (as_list n.published) rest.since (published are.0) rest.own;
    }
  where
    published : IsByPass 1 n → AreOwn 1 (as_list n.published)
    published (inl none) = subst (λ (x : Option Publishing). AreOwn 1 (as_list x)) (sym none) tt
    published (inr range) = let low = range.0 in let high = range.1 in let is : n.by ≡ 1 = omega (arith, low, high) in subst (λ (p : ℕ). AreOwn p (as_list n.published)) is range.2

-- the one pass is the first, and all is published for it
abbrev IsOne : BoardId → List Note → Part → Type 0
IsOne b ns h = (h.number ≡ 1) × AreByPasses 1 ns

is_one : (b : BoardId) (ns : List Note) (y : Yard) (dev : Device) (h : Part) → IsLocked b ns y dev → Knows b.sizes b.opened ns h → b.sizes.passes ≡ 1 → IsOne b ns h
is_one b ns y dev h locked knows one =
    let t = locked.tied in
    let shape : y.shape ≡ t.start.shape = t.yard.shape ∙ subst (λ (w : State). shape_in w ≡ t.start.shape) t.state (run_keeps_shape (first_point t.start) t.steps) in
    let passes : t.start.shape.passes ≡ 1 = ap (λ (s : Shape). s.passes) (sym shape) ∙ ap (λ (z : Sizes). z.passes) (sym locked.sizes) ∙ one in
    let low = knows.numbered.0 in
    let high = knows.numbered.1 in
    (omega (arith, low, high, one), subst (λ (n : ℕ). AreByPasses n ns) passes (passes_read t.start ns t.steps t.runs t.reads))

pub alone_trace : (b : BoardId) (ns : List Note) (y : Yard) (dev : Device) (h : Part) → IsLocked b ns y dev → Knows b.sizes b.opened ns h → b.sizes.passes ≡ 1 → trace_of b.opened ns ≡ h.known
alone_trace b ns y dev h locked knows one =
    let is = is_one b ns y dev h locked knows one in
    let long = one_long b.opened h.base ns is.1 (subst (λ (q : ℕ). Quiet b.opened q h.base ns) is.0 knows.quiet) knows.least in
    let seen = least_load h.base (length h.known) h.loads knows.order in
    let since = knows.since in
    let within : length (since.0 ++ h.known) ≤ length h.known = subst (λ (P : Trace). length P ≤ length h.known) since.1 (omega (arith, long, seen)) in
    since.1 ∙ no_more since.0 h.known within

-- since the life began each change was made for it
pub own_trace : (b : BoardId) (ns : List Note) (y : Yard) (dev : Device) (h : Part) → IsLocked b ns y dev → Knows b.sizes b.opened ns h → b.sizes.passes ≡ 1 → OnlyOwn h.number b.opened (trace_of b.opened ns)
own_trace b ns y dev h locked knows one =
    let is = is_one b ns y dev h locked knows one in
    subst (λ (p : ℕ). OnlyOwn p b.opened (trace_of b.opened ns)) (sym is.0) (only_own b.opened ns is.1)

-- a pass, one of however many, has seen what the life began with
pub opened_known : (b : BoardId) (ns : List Note) (h : Part) → Knows b.sizes b.opened ns h → Extends h.known b.opened
opened_known b ns h knows =
    let least = knows.least in
    let seen = least_load h.base (length h.known) h.loads knows.order in
    extends_both b.opened h.known (trace_of b.opened ns) (extends_trans b.opened h.begun (trace_of b.opened ns) knows.began knows.from) (knows.since.0, knows.since.1) (omega (arith, least, seen))

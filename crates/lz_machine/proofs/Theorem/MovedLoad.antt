-- A load may be put into a run after its actor's last step: the later steps don't look at it.
use Rattle.std.proofs.lemmas.Bool.{cases_Bool, or_parts, Decides.{nat_tests}}
use Rattle.std.proofs.Common.{◌≡◌, ◌≢◌, inl, inr, ℕ, suc, ◌%◌, Bool, true, false, List, [], ◌∷◌, ◌++◌, Option, Some, None, refl, sym, ap, ◌∙◌, subst, arith}
use Rattle.std.specs.{Prelude.{◌||◌, IsSome}, List.{list_any}}
use mathlib.Core.Bool.{false≢true}
use Rattle.lz_slot.specs.{declared.command.Command.{Command}, Counted.{set_of_pass}, Histories.{Life, lives}}
use Rattle.lz_slot.proofs.Counted.{of_pass_other, length-set_of_pass}
use Rattle.lz_disk.specs.Images.{Medium}
use Rattle.lz_vault.specs.Vaults.{NoCall, medium_after}
use Rattle.lz_list.specs.{declared.{word.Word.{Word}, publishing.Publishing.{Publishing}}, Words.{Words, get}, Traces.{Trace}}
use Rattle.lz_machine.specs.declared.{course.Course.TheVariants.{Plays}, event.{Event.{Event, TheVariants.{Hop}}, Outcome.{Outcome}}}
use Rattle.lz_machine.specs.{declared.{event.{Outcome.TheVariants.{Value, NotNow}, Reply.{Reply}}, caller.Progress.{Progress}}, Yards.{Yard, Shape, actor_at}}
use Rattle.lz_machine.specs.{Table.{pin_of, course, line, line_on, line_call, call_on, published_on, line_publishes}, Calls.{event_at, loaded, progress_after}}
use Rattle.lz_machine.specs.Runs.{Caller, Service, State, Up, Down, Start, IsStart, start_keys, Transition, Turn, Point, point_after, run, IsRun, first_point}
use Rattle.lz_machine.specs.Runs.{played, caller_at, next_event, reply_at, moved_on, after_turn, state_after, HasTurn, MayStep, mark_of_turn, marks_of_turn}
use Rattle.lz_machine.specs.Runs.{marks_of, turn_publishes, trace_after, calls_made_after}
use Rattle.lz_machine.specs.Laws.{is_of, outcome_at, outcomes, hop_of, hop_of_caller, next_hop, SameBut, call_in, ends_life, WalksMove}
use Rattle.lz_machine.{specs.{CallersSound.{is_before_pin}, Sound.{PointSound, IsSound}}, proofs.Theorem.MovedCall.{call_stays, ends_same}}
use Rattle.lz_machine.proofs.Runs.{Twins.{Twin, apart, left, right, follows}, Composition.{run_append}}

-- a call whose next event is a load: it is inside, and gives no reply yet
record Loads (words : Words) (e : Event) (at : Progress) : Type 0 where
  word : Word
  is_hop : loaded words e ≡ Hop word
  inside : is_before_pin at ≡ false
  no_reply : reply_at at ≡ None

loads : (words : Words) (shape : Shape) (c : Command) (at : Progress) → IsSome (hop_of (loaded words (event_at shape c at))) → Loads words (event_at shape c at) at
loads words shape c at is = grind arith

-- a load by an actor that is inside is played, in a dead vault too
course_plays : (y : Yard) (a : ℕ) (word : Word) → pin_of y a % 2 ≡ 1 → course y a (Hop word) ≡ Plays
course_plays y a word odd = grind arith

-- two points whose states differ in one actor's call at most
record Beside (a : ℕ) (one other : Point) : Type 0 where
  twin : Twin a
  left_is : left a twin ≡ one.state
  right_is : right a twin ≡ other.state
  marks : other.marks ≡ one.marks
  trace : other.trace ≡ one.trace
  calls : other.calls ≡ one.calls

-- the load itself
module _ (a : ℕ) (y : Yard) (callers : List (Option Caller)) (disk : Medium) (caller : Caller) (is : caller_at callers a ≡ Some caller) (load : Loads y.words (event_at y.shape caller.command caller.progress) caller.progress) (odd : pin_of y a % 2 ≡ 1) where
  abbrev serving : Service
  serving = record { yard = y; callers = callers }

  plays : course y a (next_event y caller) ≡ Plays
  plays = ap (course y a) load.is_hop ∙ course_plays y a load.word odd

  hop_line : line y a (next_event y caller) ≡ (y, Value (get y.words load.word))
  hop_line = λ i. line_on (plays i) y (actor_at y a) a (load.is_hop i)

  hop_call : line_call y a (next_event y caller) ≡ NoCall
  hop_call = λ i. call_on (plays i) y (actor_at y a) (load.is_hop i)

  hop_publishes : line_publishes y a (next_event y caller) ≡ []
  hop_publishes = λ i. published_on (plays i) y (actor_at y a) a (load.is_hop i)

  abbrev after : Option Caller
  after = moved_on (reply_at caller.progress) caller (progress_after y.shape caller.command caller.progress (Value (get y.words load.word)))

  loaded_state : after_turn serving disk a (caller_at callers a) ≡ Up (record { yard = y; callers = set_of_pass callers a after }) disk
  loaded_state = ap (after_turn serving disk a) is ∙ (λ i. Up (played serving a caller (hop_line i)) (medium_after (hop_call i) disk))

  value_now : (value : ℕ) → Value value ≢ NotNow
  value_now value e = absurd cc

  hop_may : MayStep (Up serving disk) (Turn a)
  hop_may = subst (HasTurn serving a) (sym is) (λ bad. value_now _ (sym (ap (λ (l : Yard × Outcome). l.1) hop_line) ∙ bad))

  hop_beside : (p : Point) → p.state ≡ Up serving disk → Beside a p (point_after p (Turn a))
  hop_beside p at = record {
    twin = apart y disk callers (set_of_pass callers a after) (sym (length-set_of_pass callers a after)) (λ b other. sym (of_pass_other callers a b after None other));
    left_is = sym at;
    right_is = sym (ap (λ (w : State). state_after (suc p.calls) w (Turn a)) at ∙ loaded_state);
    marks = ap (λ (w : State). marks_of (suc p.calls) w (Turn a) ++ p.marks) at ∙ ap (λ (q : Option Caller). marks_of_turn q ++ p.marks) is ∙ ap (λ (r : Option Reply). mark_of_turn caller.number r ++ p.marks) load.no_reply;
    trace = ap (λ (w : State). trace_after w p.trace (Turn a)) at ∙ ap (λ (q : Option Caller). turn_publishes serving a q ++ p.trace) is ∙ ap (λ (l : List Publishing). l ++ p.trace) hop_publishes;
    calls = refl;
  }

-- at a point that is sound an actor whose next event is a load is inside
pin_inside : (start : Start) (p : Point) (L : List Life) (service : Service) (disk : Medium) (a : ℕ) (caller : Caller) → p.state ≡ Up service disk → PointSound start p L
    → caller_at service.callers a ≡ Some caller → is_before_pin caller.progress ≡ false → pin_of service.yard a % 2 ≡ 1
pin_inside start p L service disk a caller at h is inside = grind arith

-- what a load does at a point
record HopsBeside (a : ℕ) (p : Point) : Type 0 where
  may : MayStep p.state (Turn a)
  beside : Beside a p (point_after p (Turn a))

hops_caller : (start : Start) (p : Point) (a : ℕ) (service : Service) (disk : Medium) → IsSound start p → p.state ≡ Up service disk → (q : Option Caller) → caller_at service.callers a ≡ q → IsSome (hop_of_caller service q) → HopsBeside a p
hops_caller start p a service disk sound at None is hop = absurd (false≢true hop)
hops_caller start p a service disk sound at (Some caller) is hop =
    let load = loads service.yard.words service.yard.shape caller.command caller.progress hop in
    let odd = pin_inside start p (lives (start_keys start) p.marks) service disk a caller at sound is load.inside in
    record {
      may = subst (λ (w : State). MayStep w (Turn a)) (sym at) (hop_may a service.yard service.callers disk caller is load odd);
      beside = hop_beside a service.yard service.callers disk caller is load odd p at;
    }

hops_state : (start : Start) (p : Point) (a : ℕ) → IsSound start p → (w : State) → p.state ≡ w → IsSome (next_hop w a) → HopsBeside a p
hops_state start p a sound (Up service disk) at hop = hops_caller start p a service disk sound at (caller_at service.callers a) refl hop
hops_state start p a sound (Down shape disk) at hop = absurd (false≢true hop)

-- a later step, which isn't the actor's
record StepsBeside (a : ℕ) (one other : Point) (step : Transition) : Type 0 where
  may : MayStep other.state step
  outcome : outcome_at other.state step ≡ outcome_at one.state step
  beside : Beside a (point_after one step) (point_after other step)

steps_beside : (a : ℕ) (one other : Point) (step : Transition) → is_of a step ≡ false → MayStep one.state step → Beside a one other → StepsBeside a one other step
steps_beside a one other step apart_from may h =
    let n = suc one.calls in
    let f = follows a n h.twin one.trace step apart_from (subst (λ (w : State). MayStep w step) (sym h.left_is) may) in
    let marks = ap (λ (m : ℕ). marks_of (suc m) other.state step) h.calls ∙ ap (λ (w : State). marks_of n w step) (sym h.right_is) ∙ sym f.marks ∙ ap (λ (w : State). marks_of n w step) h.left_is in
    record {
      may = subst (λ (w : State). MayStep w step) h.right_is f.may;
      outcome = ap (λ (w : State). outcome_at w step) (sym h.right_is) ∙ sym f.outcome ∙ ap (λ (w : State). outcome_at w step) h.left_is;
      beside = record {
        twin = f.next;
        left_is = f.left_is ∙ ap (λ (w : State). state_after n w step) h.left_is;
        right_is = f.right_is ∙ ap (λ (w : State). state_after n w step) h.right_is ∙ ap (λ (m : ℕ). state_after (suc m) other.state step) (sym h.calls);
        marks = λ i. marks i ++ h.marks i;
        trace = ap (λ (P : Trace). trace_after other.state P step) h.trace ∙ ap (λ (w : State). trace_after w one.trace step) (sym h.right_is) ∙ sym f.trace ∙ ap (λ (w : State). trace_after w one.trace step) h.left_is;
        calls = ap (λ (m : ℕ). calls_made_after m step) h.calls;
      };
    }

run_before : (p : Point) (later before : List Transition) → IsRun p (later ++ before) → IsRun p before
run_before p [] before runs = runs
run_before p (step ∷ later) before runs = run_before p later before runs.1

-- the later steps, one after the other
module _ (p : Point) (a : ℕ) (before : List Transition) (hops : HopsBeside a (run p before)) where
  record Later (later : List Transition) : Type 0 where
    runs : IsRun p (later ++ Turn a ∷ before)
    same_outcomes : outcomes (run p (Turn a ∷ before)) later ≡ outcomes (run p before) later
    beside : Beside a (run p (later ++ before)) (run p (later ++ Turn a ∷ before))

  goes_later : (later : List Transition) → IsRun p (later ++ before) → list_any (is_of a) later ≡ false → Later later
  goes_later [] runs none = record { runs = (hops.may, runs); same_outcomes = refl; beside = hops.beside }
  goes_later (step ∷ later) runs none =
      let parts = or_parts (is_of a step) (list_any (is_of a) later) none in
      let rest = goes_later later runs.1 parts.1 in
      let now = steps_beside a (run p (later ++ before)) (run p (later ++ Turn a ∷ before)) step parts.0 runs.0 rest.beside in
      let outcome = ap (λ (q : Point). outcome_at q.state step) (run_append p later (Turn a ∷ before)) ∙ now.outcome ∙ ap (λ (q : Point). outcome_at q.state step) (sym (run_append p later before)) in
      record {
        runs = (now.may, rest.runs);
        same_outcomes = λ i. outcome i ∷ rest.same_outcomes i;
        beside = now.beside;
      }

twins_same : (a : ℕ) (t : Twin a) → SameBut a (left a t) (right a t)
twins_same a t = grind (arith, nat_tests)

beside_same : (a : ℕ) (one other : Point) → Beside a one other → SameBut a one.state other.state
beside_same a one other h = subst (λ (w : State). SameBut a one.state w) h.right_is (subst (λ (w : State). SameBut a w (right a h.twin)) h.left_is (twins_same a h.twin))

module _ (p : Point) (a : ℕ) (before : List Transition) (hops : HopsBeside a (run p before)) where
  -- the actor's call, while the life goes on
  call_kept : (later : List Transition) → list_any (is_of a) later ≡ false → list_any ends_life later ≡ false → call_in (run p (later ++ Turn a ∷ before)).state a ≡ call_in (run p (Turn a ∷ before)).state a
  call_kept [] none goes = refl
  call_kept (step ∷ later) none goes = grind (arith, nat_tests, or_parts, call_stays, call_kept later)

  -- the state, once it has ended
  same_over : (later : List Transition) → IsRun p (later ++ before) → list_any (is_of a) later ≡ false → list_any ends_life later ≡ true → (run p (later ++ Turn a ∷ before)).state ≡ (run p (later ++ before)).state
  same_over [] runs none ends = absurd (false≢true ends)
  same_over (step ∷ later) runs none ends =
      let parts = or_parts (is_of a step) (list_any (is_of a) later) none in
      let one = run p (later ++ before) in
      let other = run p (later ++ Turn a ∷ before) in
      let h = (goes_later p a before hops later runs.1 parts.1).beside in
      elim (cases_Bool (ends_life step)) [
        | inl here ↦ ends_same a (suc one.calls) (suc other.calls) one.state other.state step here (beside_same a one other h)
        | inr later_on ↦
            let same = same_over later runs.1 parts.1 (ap (λ (b : Bool). b || list_any ends_life later) (sym later_on) ∙ ends) in
            ap (λ (w : State). state_after (suc other.calls) w step) same ∙ ap (λ (m : ℕ). state_after (suc m) one.state step) h.calls
      ]

module _ (reached_sound : (start : Start) (steps : List Transition) → IsStart start → IsRun (first_point start) steps → IsSound start (run (first_point start) steps)) where
  pub walks_move : WalksMove
  walks_move start later before a starts runs none hop =
      let p = first_point start in
      let sound = reached_sound start before starts (run_before p later before runs) in
      let hops = hops_state start (run p before) a sound (run p before).state refl hop in
      let rest = goes_later p a before hops later runs none in
      record {
        may = hops.may;
        runs = rest.runs;
        outcomes = rest.same_outcomes;
        marks = rest.beside.marks;
        trace = rest.beside.trace;
        state = beside_same a (run p (later ++ before)) (run p (later ++ Turn a ∷ before)) rest.beside;
        call = call_kept p a before hops later none;
        over = same_over p a before hops later runs none;
      }

-- A pass's load may be put into the notes: they are read as a run then too, by the law that walks move.
use Rattle.std.proofs.{lemmas.{Bool.{cases_Bool, cases_eq, Decides.{nat_tests}}, List.Folds.{list_any-append}}, Common.{◌≡◌, ◌≢◌, ◌⊎◌, ⊎_elim, ℕ, zero, suc}}
use Rattle.std.proofs.Common.{◌+◌, ◌<◌, ◌≤◌, Bool, false, ◌||◌, List, [], ◌∷◌, ◌++◌, length, refl, sym, ap, ◌∙◌, subst, arith, append_assoc, length-append}
use Rattle.std.{proofs.Common.{ne_eqb, replicate, Option, Some, None, IsSome, IsNone}, specs.List.{list_any}}
use mathlib.Core.Bool.{false≢true}
use Rattle.lz_refinement.proofs.Vocabulary.{Medium, Word, Publishing, Words, get, Trace, word_after, Course, Shape, Yard, actor_at, course, line, line_on}
use Rattle.lz_refinement.proofs.Vocabulary.{line_publishes, published_on, pin_of, event_at, loaded, Start, IsStart, State, Up, Down, Service, Caller, Transition}
use Rattle.lz_refinement.proofs.Vocabulary.{Calls, Turn, Fails, Looks, Point, run, IsRun, MayStep, first_point, caller_at, next_event, HasTurn, is_of, SameBut}
use Rattle.lz_refinement.proofs.Vocabulary.{KeepsRun, next_hop, hop_of_caller, TraceSound, Sizes, What, Note, Load, as_list, trace_of, steps_of, Extends, load_note}
use Rattle.lz_refinement.proofs.{Vocabulary.{insert_load, Quiet, IsShared, Shown, place}, Reading.{TraceNotes.{trace_reads}, CallPlaces.{place_reads, run_before}}}
use Rattle.lz_refinement.specs.NotedRuns.{TellsTurn, TellsFault, TellsStep, TellsLooks, TellsOf, NoteTells, ReadsAs, viewed, IsHopAt}
use Rattle.lz_list.{specs.declared.word.Word.TheVariants.{Head, Link, Key, Pin as PinOf, Halt}, proofs.Tables.WordTable.{table_at}}
use Rattle.lz_machine.specs.declared.{course.Course.TheVariants.{Refused, Plays}, event.{Event.TheVariants.{Hop}, Outcome.TheVariants.{Value, NotNow}}}
use Rattle.lz_machine.proofs.Theorem.Reached.{reached_sound, walks_move, up_at}
use Rattle.lz_board.{specs.declared.view.What.TheVariants.{Called, Played, Found}, proofs.Upkeep.Splice.{at_place, other_step}}

-- the words of a sound state are those after its trace
pub words_shown : (shape : Shape) (words : Words) (P : Trace) → TraceSound shape words P → (w : Word) → IsShared (record { slots = shape.slots; buckets = shape.buckets; passes = shape.passes }) w → get words w ≡ word_after shape.buckets P w
words_shown shape words P h (Head b) in_range = ap (λ l. get (record words { heads = l }) (Head b)) h.heads ∙ table_at shape.buckets (λ b. word_after shape.buckets P (Head b)) b 0 in_range
words_shown shape words P h (Link s) in_range = ap (λ l. get (record words { links = l }) (Link s)) h.links ∙ table_at shape.slots (λ s. word_after shape.buckets P (Link s)) s 0 in_range
words_shown shape words P h (Key s) in_range = ap (λ l. get (record words { keys = l }) (Key s)) h.keys ∙ table_at shape.slots (λ s. word_after shape.buckets P (Key s)) s 0 in_range
words_shown shape words P h (PinOf p) in_range = absurd in_range
words_shown shape words P h Halt in_range = h.halt

-- a load is played, or it comes too early
hop_course : (y : Yard) (a : ℕ) (w : Word) → (course y a (Hop w) ≡ Plays) ⊎ (course y a (Hop w) ≡ Refused NotNow)
hop_course y a w = grind (arith, cases_Bool)

hop_plays : (y : Yard) (a : ℕ) (w : Word) → (line y a (Hop w)).1 ≢ NotNow → course y a (Hop w) ≡ Plays
hop_plays y a w now = ⊎_elim (λ is. is) (λ is. absurd (now (ap (λ (c : Course). (line_on c y (actor_at y a) a (Hop w)).1) is))) (hop_course y a w)

whole : (t seen : Trace) → Extends t seen → length t ≤ length seen → t ≡ seen
whole t seen ([], e) le = e
whole t seen (y ∷ ys, e) le = let n = ap length e ∙ length-append (y ∷ ys) seen in let m : length (y ∷ ys) ≡ suc (length ys) = refl in absurd (omega arith)

abbrev tail_or : Trace → Trace → Trace
tail_or d [] = d
tail_or d (z ∷ zs) = zs

pub shorter : (x : Option Publishing) (t seen : Trace) → Extends (as_list x ++ t) seen → length seen < length (as_list x ++ t) → Extends t seen
shorter None t seen e lt = e
shorter (Some z) t seen ([], e) lt = let n = ap length e in absurd (omega arith)
shorter (Some z) t seen (y ∷ ys, e) lt = (ys, ap (tail_or t) e)

any_append : (f : Transition → Bool) (xs ys : List Transition) → list_any f xs ≡ false → list_any f ys ≡ false → list_any f (xs ++ ys) ≡ false
any_append f xs ys none rest = list_any-append f xs ys ∙ ap (λ b. b || list_any f ys) none ∙ rest

-- what a note tells of one state it tells of another that differs in another actor's call
same_turn : (a : ℕ) (one other : Service) (b : ℕ) (n : Note) (q q' : Option Caller) → one.yard ≡ other.yard → q ≡ q' → TellsTurn one b q n → TellsTurn other b q' n
same_turn a one other b n None q' yard same t = absurd t
same_turn a one other b n (Some caller) q' yard same t = grind arith

same_fault : (one other : Service) (n : Note) (q q' : Option Caller) → one.yard ≡ other.yard → q ≡ q' → TellsFault one q n → TellsFault other q' n
same_fault one other n None q' yard same t = absurd t
same_fault one other n (Some caller) q' yard same t = grind arith

same_step : (a : ℕ) (w w' : State) (n : Note) (step : Transition) → n.by ≢ a → SameBut a w w' → TellsStep w n step → TellsStep w' n step
same_step a (Up one disk) (Up other disk') n (Calls b c) away same t = subst (λ (y : Yard). (n.by ≡ b) × (n.what ≡ Called c y.vault.format) × (n.published ≡ None)) same.0 t
same_step a (Up one disk) (Up other disk') n (Turn b) away same t = (t.0, same_turn a one other b n (caller_at one.callers b) (caller_at other.callers b) same.0 (same.2 b (λ is. away (t.0 ∙ is))) t.1)
same_step a (Up one disk) (Up other disk') n (Fails b new) away same t = (t.0, same_fault one other n (caller_at one.callers b) (caller_at other.callers b) same.0 (same.2 b (λ is. away (t.0 ∙ is))) t.1)
same_step a (Up one disk) (Down shape disk') n step away same t = absurd same
same_step a (Down shape disk) (Up other disk') n step away same t = absurd same
same_step a _ _ n _ away same t = absurd t

abbrev yard_or : Yard → State → Yard
yard_or d (Up service disk) = service.yard
yard_or d (Down shape disk) = d

same_looks : (a q v : ℕ) (w w' : State) (new : List Transition) → SameBut a w w' → TellsLooks w q v new → TellsLooks w' q v new
same_looks a q v (Up one disk) (Up other disk') new same t = record {
  looks = t.looks;
  steps = t.steps;
  found = λ service medium is. ap (λ (w : State). pin_of (yard_or one.yard w) q + t.looks) (sym is) ∙ ap (λ (y : Yard). pin_of y q + t.looks) (sym same.0) ∙ t.found one disk refl;
}
same_looks a q v (Up one disk) (Down shape disk') new same t = absurd same
same_looks a q v (Down shape disk) (Up other disk') new same t = absurd same
same_looks a q v (Down shape disk) (Down shape' disk') new same t = grind arith

tells_same : (a : ℕ) (w w' : State) (n : Note) (new : List Transition) → n.by ≢ a → SameBut a w w' → NoteTells w n new → NoteTells w' n new
tells_same a w w' n new away same t = grind (arith, nat_tests, same_looks, same_step)

-- a step of another actor
other_of : (a : ℕ) (w : State) (n : Note) (step : Transition) → n.by ≢ a → TellsStep w n step → is_of a step ≡ false
other_of a (Up service disk) n (Calls b c) away t = ne_eqb a b (λ is. away (t.0 ∙ sym is))
other_of a (Up service disk) n (Turn b) away t = ne_eqb a b (λ is. away (t.0 ∙ sym is))
other_of a (Up service disk) n (Fails b new) away t = ne_eqb a b (λ is. away (t.0 ∙ sym is))
other_of a _ n _ away t = absurd t

-- a pass with an open call doesn't look
looks_away : (p : Point) (service : Service) (disk : Medium) (a k q : ℕ) (before : List Transition) → (run p before).state ≡ Up service disk → IsSome (caller_at service.callers a) → IsRun p (replicate k (Looks q) ++ before) → list_any (is_of a) (replicate k (Looks q)) ≡ false
looks_away p service disk a zero q before at calls runs = refl
looks_away p service disk a (suc k) q before at calls runs = ⊎_elim
    (λ (same : a ≡ q). absurd (not_both (caller_at service.callers a) calls (subst (λ q. IsNone (caller_at service.callers q)) (sym same) (first_look k runs))))
    (λ (away : a ≢ q). ap (λ b. b || list_any (is_of a) (replicate k (Looks q))) (ne_eqb a q away) ∙ looks_away p service disk a k q before at calls runs.1)
    (cases_eq a q)
  where
    not_both : (x : Option Caller) → IsSome x → IsNone x → ⊥
    not_both None some none = false≢true some
    not_both (Some x) some none = false≢true (sym none)

    first_look : (k : ℕ) → IsRun p (Looks q ∷ (replicate k (Looks q) ++ before)) → IsNone (caller_at service.callers q)
    first_look zero runs = (subst (λ (w : State). MayStep w (Looks q)) at runs.0).1
    first_look (suc k) runs = first_look k runs.1

-- The load is put in after these steps.
module _ (start : Start) (starts : IsStart start) (a : ℕ) (low : 1 ≤ a) (h : Load) where
  abbrev p : Point
  p = first_point start

  abbrev opened : Trace
  opened = p.trace

  abbrev z : Sizes
  z = record { slots = start.shape.slots; buckets = start.shape.buckets; passes = start.shape.passes }

  pub record Inserted (steps : List Transition) (ns : List Note) : Type 0 where
    pub later : List Transition
    pub before : List Transition
    pub splits : steps ≡ later ++ before
    pub none : list_any (is_of a) later ≡ false
    pub hop : IsSome (next_hop (run p before).state a)
    pub keeps : KeepsRun p a later before
    pub reads : ReadsAs p ns (later ++ Turn a ∷ before)

  -- the actor's call, of which the load is the next event
  hop_tells : (service : Service) (q : Option Caller) → IsHopAt start.shape h (viewed q) → service.yard.shape ≡ start.shape → caller_at service.callers a ≡ q → IsSome (hop_of_caller service q)
  hop_tells service None is shape at = absurd is
  hop_tells service (Some caller) is shape at = grind arith

  turn_tells : (service : Service) (q : Option Caller) → IsHopAt start.shape h (viewed q) → service.yard.shape ≡ start.shape → HasTurn service a q → h.value ≡ get service.yard.words h.word → TellsTurn service a q (load_note a h)
  turn_tells service None is shape may value = absurd is
  turn_tells service (Some caller) is shape may value =
      let y = service.yard in
      let e : next_event y caller ≡ Hop h.word = ap (λ s. loaded y.words (event_at s caller.command caller.progress)) shape ∙ ap (loaded y.words) is in
      let plays = hop_plays y a h.word (subst (λ e. (line y a e).1 ≢ NotNow) e may) in
      let out : (line y a (Hop h.word)).1 ≡ Value (get y.words h.word) = ap (λ (c : Course). (line_on c y (actor_at y a) a (Hop h.word)).1) plays in
      let silent : line_publishes y a (Hop h.word) ≡ [] = ap (λ (c : Course). published_on c y (actor_at y a) a (Hop h.word)) plays in
      subst (λ e. (Played (Hop h.word) (Value h.value) ≡ Played e (line y a e).1) × ([] ≡ line_publishes y a e)) (sym e) (ap (λ v. Played (Hop h.word) v) (ap Value value ∙ sym out), sym silent)

  here : (ns : List Note) (steps : List Transition) → IsRun p steps → ReadsAs p ns steps → Shown z (trace_of opened ns) h → length (trace_of opened ns) ≤ h.at → IsHopAt start.shape h (place start.shape (steps_of a ns)) → Inserted steps (load_note a h ∷ ns)
  here ns steps runs reads shown at hop =
      let pl = place_reads start ns steps runs reads in
      let service = pl.service in
      let call = caller_at service.callers a in
      let is = subst (IsHopAt start.shape h) (sym (pl.places a low)) hop in
      let some = subst (λ (w : State). IsSome (next_hop w a)) (sym pl.state) (hop_tells service call is pl.shape refl) in
      let keeps = walks_move start [] steps a starts runs refl some in
      let up = up_at start (run p steps) service pl.disk (reached_sound start steps starts runs) pl.state in
      let trace = up.up.sound.trace in
      let l = shown.long in
      let seen : trace_of opened ns ≡ shown.seen = whole (trace_of opened ns) shown.seen shown.begins (omega (arith, at, l)) in
      let word : get service.yard.words h.word ≡ word_after service.yard.shape.buckets (run p steps).trace h.word =
      words_shown service.yard.shape service.yard.words (run p steps).trace trace h.word (subst (λ (s : Shape). IsShared (record { slots = s.slots; buckets = s.buckets; passes = s.passes }) h.word) (sym pl.shape) shown.shared) in
      let value : h.value ≡ get service.yard.words h.word =
      shown.value ∙ ap (λ P. word_after start.shape.buckets P h.word) (sym seen ∙ sym (trace_reads p ns steps reads)) ∙ ap (λ (s : Shape). word_after s.buckets (run p steps).trace h.word) (sym pl.shape) ∙ sym word in
      let may = subst (λ (w : State). MayStep w (Turn a)) pl.state keeps.may in
      record {
        later = [];
        before = steps;
        splits = refl;
        none = refl;
        hop = some;
        keeps = keeps;
        reads = (Turn a ∷ [], steps, refl, record { step = Turn a; steps = refl; tells = subst (λ (w : State). TellsStep w (load_note a h) (Turn a)) (sym pl.state) (refl, turn_tells service call is pl.shape may value) }, reads);
      }

  pub insert_reads : (ns : List Note) (steps : List Transition) → IsRun p steps → ReadsAs p ns steps → Quiet opened a h.at ns → length opened ≤ h.at → Shown z (trace_of opened ns) h → IsHopAt start.shape h (place start.shape (steps_of a ns)) → Inserted steps (insert_load opened a h ns)
  insert_reads [] steps runs reads quiet least shown hop = here [] steps runs reads shown least hop
  insert_reads (x ∷ xs) steps runs (new, before, is, tells, rest) quiet least shown hop = at_place opened (Inserted steps) a h x xs (over (insert_reads xs before)) (λ at. here (x ∷ xs) steps runs (new, before, is, tells, rest) shown at hop)
    where
      over : (IsRun p before → ReadsAs p xs before → Quiet opened a h.at xs → length opened ≤ h.at → Shown z (trace_of opened xs) h → IsHopAt start.shape h (place start.shape (steps_of a xs)) → Inserted before (insert_load opened a h xs))
          → h.at < length (trace_of opened (x ∷ xs)) → Inserted steps (x ∷ insert_load opened a h xs)
      over next past =
          let away = quiet.0 past in
          let runs' = subst (IsRun p) is runs in
          let l = shown.long in
          let hop' = subst (λ l. IsHopAt start.shape h (place start.shape l)) (other_step opened a x xs away) hop in
          let shown' : Shown z (trace_of opened xs) h = record { seen = shown.seen; begins = shorter x.published (trace_of opened xs) shown.seen shown.begins (omega (arith, past, l)); long = shown.long; shared = shown.shared; value = shown.value } in
          let r = next (run_before p new before runs') rest quiet.1 least shown' hop' in
          let pl = place_reads start xs before (run_before p new before runs') rest in
          let calls : IsSome (caller_at pl.service.callers a) = some_call (caller_at pl.service.callers a) (subst (IsHopAt start.shape h) (sym (pl.places a low)) hop') in
          let none = any_append (is_of a) new r.later (others x.what pl.service pl.disk pl.state calls runs' away tells) r.none in
          let all : steps ≡ (new ++ r.later) ++ r.before = is ∙ ap (λ l. new ++ l) r.splits ∙ sym (append_assoc new r.later r.before) in
          let tells' = tells_same a (run p (r.later ++ r.before)).state (run p (r.later ++ Turn a ∷ r.before)).state x new away r.keeps.state (subst (λ l. NoteTells (run p l).state x new) r.splits tells) in
          record {
            later = new ++ r.later;
            before = r.before;
            splits = all;
            none = none;
            hop = r.hop;
            keeps = walks_move start (new ++ r.later) r.before a starts (subst (IsRun p) all runs) none r.hop;
            reads = (new, r.later ++ Turn a ∷ r.before, append_assoc new r.later (Turn a ∷ r.before), tells', r.reads);
          }
        where
          some_call : (q : Option Caller) → IsHopAt start.shape h (viewed q) → IsSome q
          some_call None is = absurd is
          some_call (Some caller) is = refl

          others : (what : What) (service : Service) (disk : Medium) → (run p before).state ≡ Up service disk → IsSome (caller_at service.callers a) → IsRun p (new ++ before) → x.by ≢ a → TellsOf (run p before).state x what new → list_any (is_of a) new ≡ false
          others (Found q v) service disk at calls runs away t = ap (list_any (is_of a)) t.2.steps ∙ looks_away p service disk a t.2.looks q before at calls (subst (λ l. IsRun p (l ++ before)) t.2.steps runs)
          others _ service disk at calls runs away t = ap (list_any (is_of a)) t.steps ∙ ap (λ b. b || false) (other_of a (run p before).state x t.step away t.tells)

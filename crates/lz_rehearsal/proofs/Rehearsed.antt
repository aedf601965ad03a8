-- A rehearsal goes on, line by line and turn by turn.
use Rattle.lz_core.specs.declared.play.Step.TheVariants as step
use Rattle.std.proofs.Common.{◌≡◌, inl, inr, ◌≤◌, ◌<◌, ◌+◌, ◌-◌, ℕ, zero, suc, Option, None, Some, List, [], ◌∷◌, ◌++◌, length, take, drop, get_or, slice_get}
use Rattle.std.proofs.{Common.{is_some, unwrap_or, Result, Ok, Err, OnOk, IfOk, refl, sym, ap, subst, ◌∙◌, arith}, lemmas.Bool.{false≢true}}
use Rattle.std.proofs.{lemmas.List.{append-nil, length-take-le, take_more}, Math.Seq.{split_at}, KnownBytes.{Appends-nil, Appends-trans}}
use Rattle.std.specs.Io.KnownBytes.{Appends}
use Rattle.lz_slot.specs.{declared.history.HistoryEvent.{HistoryEvent}, MarkTexts.{marks_text}}
use Rattle.lz_machine.specs.declared.{event.Outcome.{Outcome}, kind.Kind.{Kind}}
use Rattle.lz_core.specs.{declared.{play.Step.{Step as PlayStep}, world.Turned.{Turned}}, Worlds.{IsLawful, IsTold, PlaysOn, StopsAt, WorldOver, mark_list}}
use Rattle.lz_core.proofs.Runs.{PlayedStep.{stays}, JoinedPlays.{chains, joins}}
use Rattle.lz_rehearsal.specs.{declared.line.Line.{Line, TheVariants.{Call, Turn, Until, Finish, Trip, Stop, Crash, Open, Show}}, Limits.{most_turns}}
use Rattle.lz_rehearsal.specs.Rehearsals.{Adds, AddsPart, Does, EndsAt, EndsCutShort, EndsWithin, IsLawfulLine, Rehearsed, Rehearses, Turns, enough, ended}
use Rattle.lz_rehearsal.specs.{Rehearsals.{busy, met, again, nothing, more}, Rehearsing.{EndsTurns, GoesOn, PlaysStep, TakesTurns}}

-- what lines do is the play of some steps
abbrev pub IsPlay : WorldOver → List HistoryEvent → WorldOver → Type 0
IsPlay old marks new = (plays : List PlayStep) × PlaysOn old plays marks new

play_of_turns : (a : ℕ) (awaited : Option Kind) (n : ℕ) (old new : WorldOver) (marks : List HistoryEvent) (text : List ℕ) → Turns a awaited n old marks text new → IsPlay old marks new
play_of_turns a awaited _ old _ _ _ (enough w) = ([], stays w)
play_of_turns a awaited _ _ _ _ _ (ended n old new kind outcome mark is) = (step.Turn a ∷ [], is.0)
play_of_turns a awaited _ _ _ _ _ (busy n old new kind is) = (step.Turn a ∷ [], is.0)
play_of_turns a awaited _ _ _ _ _ (met n old new kind outcome is free same) = (step.Turn a ∷ [], is.0)
play_of_turns a awaited _ _ _ _ _ (again n old mid new kind outcome marks text is free other rest) =
    let later = play_of_turns a awaited n mid new marks text rest in
    (step.Turn a ∷ later.0, joins old mid new (step.Turn a ∷ []) later.0 [] marks is.0 later.1)

play_of_line : (old new : WorldOver) (line : Line) (marks : List HistoryEvent) (text : List ℕ) → Does old line marks text new → IsPlay old marks new
play_of_line old new (Call a c) marks text does = (step.Call a c ∷ [], does.0)
play_of_line old new (Turn a n) marks text does = play_of_turns a None n old new marks text does
play_of_line old new (Until a kind) marks text does = play_of_turns a (Some kind) most_turns old new marks text does
play_of_line old new (Finish a) marks text does = play_of_turns a None most_turns old new marks text does
play_of_line old new Trip marks text does = (step.Trip ∷ [], does.0)
play_of_line old new Stop marks text does = (step.Stop ∷ [], does.0)
play_of_line old new (Crash pick) marks text does = (step.Crash pick ∷ [], does.0)
play_of_line old new Open marks text does = (step.Open ∷ [], does.0)
play_of_line old new Show marks text does =
    ([], subst (λ (ms : List HistoryEvent). PlaysOn old [] ms new) (sym does.none) (subst (λ (w : WorldOver). PlaysOn old [] [] w) (sym does.same) (stays old)))

pub play_of : (old new : WorldOver) (lines : List Line) (marks : List HistoryEvent) (text : List ℕ) → Rehearsed old lines marks text new → IsPlay old marks new
play_of old _ _ _ _ nothing = ([], stays old)
play_of old _ _ _ _ (more lines line marks seen text written mid new before does) =
    let first = play_of old mid lines marks text before in
    let second = play_of_line mid new line seen written does in
    (first.0 ++ second.0, joins old mid new first.0 second.0 marks seen first.1 second.1)

abbrev Text : Type 0
Text = Option (List ℕ)

rehearses : (old new : WorldOver) (lines : List Line) (marks : List HistoryEvent) (text : List ℕ) (b a : Text) → Rehearsed old lines marks text new → Appends b a text → Rehearses old lines new b a
rehearses old new lines marks text b a h written =
    let play = play_of old new lines marks text h in
    record { marks = marks; text = text; rehearsed = h; written = written; chain = chains old new play.0 marks play.1; of_run = (play.1 (record { state = old.state; marks = []; trace = []; calls = old.calls }) (record { state = refl; calls = refl })).of_run }

appends_more : (b m a : Text) (t : List ℕ) → Appends b m t → Appends m a [] → Appends b a t
appends_more b m a t one other = subst (Appends b a) (append-nil t) (Appends-trans b m a t [] one other)

pub begins : (old : WorldOver) (b : Text) → Rehearses old [] old b b
begins old b = rehearses old old [] [] [] b b nothing (Appends-nil b)

-- one line more
pub goes_on : (old mid new : WorldOver) (lines : List Line) (i : ℕ) (line : Line) (b m a : Text) → i < length lines → get_or lines i line ≡ line
    → Rehearses old (take i lines) mid b m → Adds mid line new m a → Rehearses old (take (i + 1) lines) new b a
goes_on old mid new lines i line b m a within at before adds =
    let next : take (i + 1) lines ≡ take i lines ++ line ∷ [] = take_more lines i line within ∙ ap (λ (x : Line). take i lines ++ x ∷ []) at in
    subst (λ (ls : List Line). Rehearses old ls new b a) (sym next)
    (rehearses old new (take i lines ++ line ∷ []) (before.marks ++ adds.seen) (before.text ++ adds.text) b a
    (more (take i lines) line before.marks adds.seen before.text adds.text mid new before.rehearsed adds.does)
    (Appends-trans b m a before.text adds.text before.written adds.written))

cut_here : (lines : List Line) (i : ℕ) (line : Line) → i < length lines → get_or lines i line ≡ line → lines ≡ take i lines ++ line ∷ drop (suc i) lines
cut_here lines i line within at = split_at lines i line within ∙ ap (λ (x : Line). take i lines ++ x ∷ drop (suc i) lines) at

written_more : (old new : WorldOver) (lines : List Line) (b m a : Text) → Rehearses old lines new b m → Appends m a [] → Rehearses old lines new b a
written_more old new lines b m a h none = record { marks = h.marks; text = h.text; rehearsed = h.rehearsed; written = appends_more b m a h.text h.written none; chain = h.chain; of_run = h.of_run }

-- a line that isn't lawful
pub ends_at : (old mid new : WorldOver) (lines : List Line) (i number : ℕ) (line : Line) (b m a : Text) → i < length lines → get_or lines i line ≡ line
    → Rehearses old (take i lines) mid b m → number ≡ i + 1 → new ≡ mid → Appends m a [] → ¬ IsLawfulLine mid.state line → EndsAt old lines number new b a
ends_at old mid new lines i number line b m a within at before is same none unlawful = record {
  front = take i lines;
  line = line;
  rest = drop (suc i) lines;
  whole = cut_here lines i line within at;
  place = ap suc (length-take-le i lines (omega (arith, within))) ∙ omega (arith, is);
  rehearses = subst (λ (w : WorldOver). Rehearses old (take i lines) w b a) (sym same) (written_more old mid (take i lines) b m a before none);
  unlawful = subst (λ (w : WorldOver). ¬ IsLawfulLine w.state line) (sym same) unlawful;
}

-- a line for which there was no memory
pub ends_within : (old mid : WorldOver) (lines : List Line) (i : ℕ) (line : Line) (b m a : Text) → i < length lines → get_or lines i line ≡ line
    → Rehearses old (take i lines) mid b m → Appends m a [] → EndsWithin old lines b a
ends_within old mid lines i line b m a within at before none = record {
  front = take i lines;
  line = line;
  rest = drop (suc i) lines;
  whole = cut_here lines i line within at;
  mid = mid;
  rehearses = written_more old mid (take i lines) b m a before none;
}

-- a line of whose text a part was written
pub ends_cut_short : (old mid new : WorldOver) (lines : List Line) (i : ℕ) (line : Line) (b m a : Text) → i < length lines → get_or lines i line ≡ line
    → Rehearses old (take i lines) mid b m → AddsPart mid line new m a → EndsCutShort old lines new b a
ends_cut_short old mid new lines i line b m a within at before cut = record {
  front = take i lines;
  line = line;
  rest = drop (suc i) lines;
  whole = cut_here lines i line within at;
  mid = mid;
  middle = m;
  rehearses = before;
  cut = cut;
}

-- Turns of a line, the last of which comes later: what ends them there ends them.
abbrev pub IsGoing : ℕ → Option Kind → ℕ → WorldOver → ℕ → WorldOver → Type 0
IsGoing a awaited most start left here = (marks : List HistoryEvent) (text : List ℕ) (new : WorldOver) → Turns a awaited left here marks text new → Turns a awaited most start marks text new

pub record Going (a : ℕ) (awaited : Option Kind) (most : ℕ) (start : WorldOver) (played : ℕ) (here : WorldOver) : Type 0 where
  pub going : IsGoing a awaited most start (most - played) here
  pub still : played ≡ 0 → here ≡ start
  pub lawful : 1 ≤ played → IsLawful here.state (step.Turn a)

left_one : (most played : ℕ) → played < most → suc (most - (played + 1)) ≡ most - played
left_one most played low = omega (arith, low)

-- a turn that isn't the last of its line
pub going_on : (a : ℕ) (awaited : Option Kind) (most played : ℕ) (start here new : WorldOver) (turned : Turned) → played < most
    → Going a awaited most start played here
    → PlaysOn here (step.Turn a ∷ []) (mark_list turned.mark) new → IsTold here.state a turned.kind turned.outcome new.state
    → (turned.mark ≡ None → IsLawful new.state (step.Turn a))
    → GoesOn awaited turned → Going a awaited most start (played + 1) new
going_on a awaited most played start here new turned low h plays told lawful goes = record {
  going = λ marks text end rest.
      h.going marks text end (subst (λ (n : ℕ). Turns a awaited n here marks text end) (left_one most played low)
      (again (most - (played + 1)) here new end turned.kind turned.outcome marks text
      (subst (λ (mark : Option HistoryEvent). PlaysOn here (step.Turn a ∷ []) (mark_list mark) new) goes.0 plays, told) goes.1 goes.2 rest));
  still = λ none. absurd (omega (arith, none));
  lawful = λ some. lawful goes.0;
}

last_turn : (a : ℕ) (awaited : Option Kind) (n : ℕ) (here new : WorldOver) (turned : Turned) (text : List ℕ)
    → PlaysOn here (step.Turn a ∷ []) (mark_list turned.mark) new → IsTold here.state a turned.kind turned.outcome new.state
    → EndsTurns a awaited turned text → TakesTurns a awaited (suc n) here text new
last_turn a awaited n here new turned text plays told (inl over) = (
  over.0 ∷ [],
  subst (λ (t : List ℕ). Turns a awaited (suc n) here (over.0 ∷ []) t new) (sym over.2)
      (ended n here new turned.kind turned.outcome over.0 (subst (λ (mark : Option HistoryEvent). PlaysOn here (step.Turn a ∷ []) (mark_list mark) new) over.1 plays, told)),
)
last_turn a awaited n here new turned text plays told (inr (inl found)) = (
  [],
  subst (λ (t : List ℕ). Turns a awaited (suc n) here [] t new) (sym found.2)
      (busy n here new turned.kind (subst (λ (mark : Option HistoryEvent). PlaysOn here (step.Turn a ∷ []) (mark_list mark) new) found.0 plays, subst (λ (o : Outcome). IsTold here.state a turned.kind o new.state) found.1 told)),
)
last_turn a awaited n here new turned text plays told (inr (inr came)) = (
  [],
  subst (λ (t : List ℕ). Turns a awaited (suc n) here [] t new) (sym came.3)
      (met n here new turned.kind turned.outcome (subst (λ (mark : Option HistoryEvent). PlaysOn here (step.Turn a ∷ []) (mark_list mark) new) came.0 plays, told) came.1 came.2),
)

-- a turn that is the last of its line
pub going_ends : (a : ℕ) (awaited : Option Kind) (most played : ℕ) (start here new : WorldOver) (turned : Turned) (text : List ℕ) → played < most
    → Going a awaited most start played here
    → PlaysOn here (step.Turn a ∷ []) (mark_list turned.mark) new → IsTold here.state a turned.kind turned.outcome new.state
    → EndsTurns a awaited turned text → TakesTurns a awaited most start text new
going_ends a awaited most played start here new turned text low h plays told ends =
    let last = last_turn a awaited (most - (played + 1)) here new turned text plays told ends in
    (last.0, h.going last.0 text new (subst (λ (n : ℕ). Turns a awaited n here last.0 text new) (left_one most played low) last.1))

-- as many turns as there may be
pub going_enough : (a : ℕ) (awaited : Option Kind) (most played : ℕ) (start here : WorldOver) (text : List ℕ) → most ≤ played → Going a awaited most start played here → text ≡ []
    → TakesTurns a awaited most start text here
going_enough a awaited most played start here text all h none =
    let left : 0 ≡ most - played = omega (arith, all) in
    ([], subst (λ (t : List ℕ). Turns a awaited most start [] t here) (sym none) (h.going [] [] here (subst (λ (n : ℕ). Turns a awaited n here [] [] here) left (enough here))))

-- a play of one step that stops at it
none_behind : (play other : PlayStep) (i : ℕ) → slice_get (play ∷ []) (suc i) ≡ Some other → ⊥
none_behind play other i at = false≢true (ap is_some at)

first_place : (play other : PlayStep) (i : ℕ) → 1 ≤ i → slice_get (play ∷ []) (i - 1) ≡ Some other → i ≡ 1
first_place play other zero low at = absurd (omega (arith, low))
first_place play other (suc zero) low at = refl
first_place play other (suc (suc i)) low at = grind (arith, none_behind, slice_get)

pub stopped : (old new : WorldOver) (play : PlayStep) (i : ℕ) → StopsAt old (play ∷ []) i new → (i ≡ 1 → new ≡ old) → (new ≡ old) × ¬ IsLawful old.state play
stopped old new play i h still = grind (arith, first_place, still, slice_get, unwrap_or)

-- what was played has the text that was put together
pub step_put : {V E F : Type 0} (r : Result V F) (told : Result Unit E) (items : V → List ℕ) (old : WorldOver) (play : PlayStep) (marks : List HistoryEvent) (text : List ℕ) (new : WorldOver)
    → PlaysOn old (play ∷ []) marks new → IfOk r (λ whole. (told ≡ Ok tt) × (items whole ≡ text)) → OnOk told (text ≡ marks_text marks) → IfOk r (λ whole. PlaysStep old play (items whole) new)
step_put {E = E} (Ok whole) told items old play marks text new plays put written = (marks, (plays, put.1 ∙ subst (λ (r : Result Unit E). OnOk r (text ≡ marks_text marks)) put.0 written))
step_put (Err fault) told items old play marks text new plays put written = tt

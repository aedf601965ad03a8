-- What the rehearsal of a script does.
use Rattle.lz_core.specs.declared.play.Step.TheVariants as step
use Rattle.std.specs.{Prelude.{◌≡◌, ◌≢◌, ℕ, suc, Option, None, Some, List, [], ◌∷◌, ◌++◌, length}, Io.KnownBytes.{Appends}}
use Rattle.lz_slot.specs.{declared.history.HistoryEvent.{HistoryEvent}, MarkTexts.{marks_text}}
use Rattle.lz_proto.specs.Steps.{IsCutShort}
use Rattle.lz_machine.specs.{declared.{event.Outcome.{Outcome, TheVariants.{Busy}}, kind.Kind.{Kind}}, Runs.{State}}
use Rattle.lz_core.specs.{declared.play.Step.{Step as PlayStep}, Worlds.{Ascend, IsChain, IsLawful, IsTold, IsUp, PlaysOn, Shows, WorldOver, mark_list}}
use Rattle.lz_rehearsal.specs.{declared.line.Line.{Line, TheVariants.{Call, Turn, Until, Finish, Trip, Stop, Crash, Open, Show}}, Limits.{most_turns}}
use Rattle.lz_rehearsal.specs.Tellings.{busy_text, mark_line, show_text}
use Rattle.lz_judge.specs.MarkLines.{AreMarksOfRun}

-- a step was played: these marks were seen, and their lines written
abbrev pub IsStep : WorldOver → PlayStep → List HistoryEvent → List ℕ → WorldOver → Type 0
IsStep old play marks text new = PlaysOn old (play ∷ []) marks new × (text ≡ marks_text marks)

-- an actor took a turn: its event was of this kind and had this outcome, and its call ended with this mark, if it did
abbrev pub IsTurn : WorldOver → ℕ → Kind → Outcome → Option HistoryEvent → WorldOver → Type 0
IsTurn old a kind outcome mark new = PlaysOn old (step.Turn a ∷ []) (mark_list mark) new × IsTold old.state a kind outcome new.state

-- Turns of an actor, at most so many. They end with its call, with a lock that it found taken, and with an event of the
-- kind that was waited for.
pub data Turns (a : ℕ) (awaited : Option Kind) : ℕ → WorldOver → List HistoryEvent → List ℕ → WorldOver → Type 0 where
  enough : (w : WorldOver) → Turns a awaited 0 w [] [] w
  ended : (n : ℕ) (old new : WorldOver) (kind : Kind) (outcome : Outcome) (mark : HistoryEvent)
      → IsTurn old a kind outcome (Some mark) new → Turns a awaited (suc n) old (mark ∷ []) (mark_line mark) new
  busy : (n : ℕ) (old new : WorldOver) (kind : Kind)
      → IsTurn old a kind Busy None new → Turns a awaited (suc n) old [] (busy_text a) new
  met : (n : ℕ) (old new : WorldOver) (kind : Kind) (outcome : Outcome)
      → IsTurn old a kind outcome None new → outcome ≢ Busy → awaited ≡ Some kind → Turns a awaited (suc n) old [] [] new
  again : (n : ℕ) (old mid new : WorldOver) (kind : Kind) (outcome : Outcome) (marks : List HistoryEvent) (text : List ℕ)
      → IsTurn old a kind outcome None mid → outcome ≢ Busy → awaited ≢ Some kind → Turns a awaited n mid marks text new
      → Turns a awaited (suc n) old marks text new

-- the members of an open service were shown
pub record IsShow (old : WorldOver) (marks : List HistoryEvent) (text : List ℕ) (new : WorldOver) : Type 0 where
  pub up : IsUp old.state
  pub same : new ≡ old
  pub none : marks ≡ []
  pub keys : List ℕ
  pub members : Shows old.state keys
  pub ascend : Ascend keys
  pub shown : text ≡ show_text keys

-- What a line does: these marks are seen, and this text is written.
abbrev pub Does : WorldOver → Line → List HistoryEvent → List ℕ → WorldOver → Type 0
Does old (Call a c) marks text new = IsStep old (step.Call a c) marks text new
Does old (Turn a n) marks text new = Turns a None n old marks text new
Does old (Until a kind) marks text new = Turns a (Some kind) most_turns old marks text new
Does old (Finish a) marks text new = Turns a None most_turns old marks text new
Does old Trip marks text new = IsStep old step.Trip marks text new
Does old Stop marks text new = IsStep old step.Stop marks text new
Does old (Crash pick) marks text new = IsStep old (step.Crash pick) marks text new
Does old Open marks text new = IsStep old step.Open marks text new
Does old Show marks text new = IsShow old marks text new

-- a line is lawful where its step is, or its first turn
abbrev pub IsLawfulLine : State → Line → Type 0
IsLawfulLine w (Call a c) = IsLawful w (step.Call a c)
IsLawfulLine w (Turn a n) = IsLawful w (step.Turn a)
IsLawfulLine w (Until a kind) = IsLawful w (step.Turn a)
IsLawfulLine w (Finish a) = IsLawful w (step.Turn a)
IsLawfulLine w Trip = IsLawful w step.Trip
IsLawfulLine w Stop = IsLawful w step.Stop
IsLawfulLine w (Crash pick) = IsLawful w (step.Crash pick)
IsLawfulLine w Open = IsLawful w step.Open
IsLawfulLine w Show = IsUp w

-- What lines do, one after another.
pub data Rehearsed (start : WorldOver) : List Line → List HistoryEvent → List ℕ → WorldOver → Type 0 where
  nothing : Rehearsed start [] [] [] start
  more : (lines : List Line) (line : Line) (marks seen : List HistoryEvent) (text written : List ℕ) (mid new : WorldOver)
      → Rehearsed start lines marks text mid → Does mid line seen written new
      → Rehearsed start (lines ++ line ∷ []) (marks ++ seen) (text ++ written) new

-- A line was rehearsed, and its text written.
pub record Adds (old : WorldOver) (line : Line) (new : WorldOver) (before after : Option (List ℕ)) : Type 0 where
  pub seen : List HistoryEvent
  pub text : List ℕ
  pub does : Does old line seen text new
  pub written : Appends before after text

-- A line was rehearsed, and its text was cut short.
pub record AddsPart (old : WorldOver) (line : Line) (new : WorldOver) (before after : Option (List ℕ)) : Type 0 where
  pub seen : List HistoryEvent
  pub text : List ℕ
  pub does : Does old line seen text new
  pub cut : IsCutShort before after text

-- The lines were rehearsed, and their text written. What was seen is a chain of lives, and its marks are those of a run, so that
-- the line of each reads as that mark.
pub record Rehearses (old : WorldOver) (lines : List Line) (new : WorldOver) (before after : Option (List ℕ)) : Type 0 where
  pub marks : List HistoryEvent
  pub text : List ℕ
  pub rehearsed : Rehearsed old lines marks text new
  pub written : Appends before after text
  pub chain : IsChain old marks new
  pub of_run : AreMarksOfRun marks

-- The lines before the one with this number were rehearsed, and it isn't lawful there.
pub record EndsAt (old : WorldOver) (lines : List Line) (number : ℕ) (new : WorldOver) (before after : Option (List ℕ)) : Type 0 where
  pub front : List Line
  pub line : Line
  pub rest : List Line
  pub whole : lines ≡ front ++ line ∷ rest
  pub place : suc (length front) ≡ number
  pub rehearses : Rehearses old front new before after
  pub unlawful : ¬ IsLawfulLine new.state line

-- Some lines were rehearsed, and their text written. For the next one there was no memory, and nothing of it was written.
pub record EndsWithin (old : WorldOver) (lines : List Line) (before after : Option (List ℕ)) : Type 0 where
  pub front : List Line
  pub line : Line
  pub rest : List Line
  pub whole : lines ≡ front ++ line ∷ rest
  pub mid : WorldOver
  pub rehearses : Rehearses old front mid before after

-- Some lines were rehearsed, and their text written. The next one was rehearsed too, and of its text a part was written that isn't all.
pub record EndsCutShort (old : WorldOver) (lines : List Line) (new : WorldOver) (before after : Option (List ℕ)) : Type 0 where
  pub front : List Line
  pub line : Line
  pub rest : List Line
  pub whole : lines ≡ front ++ line ∷ rest
  pub mid : WorldOver
  pub middle : Option (List ℕ)
  pub rehearses : Rehearses old front mid before middle
  pub cut : AddsPart mid line new middle after

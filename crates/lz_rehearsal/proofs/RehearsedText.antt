-- What is written of a rehearsal says the marks that were seen, and is read as their history.
use Rattle.lz_core.specs.declared.play.Step.TheVariants as step
use Rattle.lz_rehearsal.proofs.SaidText as said
use Rattle.std.proofs.Common.{◌≡◌, ℕ, ◌≤◌, List, [], ◌∷◌, ◌++◌, length, reverse, codes, decimal, Option, None, Some, IsSomeAnd, refl, sym, ap, subst, ◌∙◌}
use Rattle.std.proofs.{Common.{arith}, lemmas.List.{append-nil}}
use Rattle.lz_slot.specs.{Limits.{most_actors}, MarkTexts.{keys_text}, declared.history.HistoryEvent.{HistoryEvent}}
use Rattle.lz_judge.specs.{MarkLines.{AreMarksOfRun, AscendFrom}, Records.{IsLawful}}
use Rattle.lz_machine.specs.{declared.{event.{Event.{Event}, Outcome.{Outcome, TheVariants.{Busy}}}, kind.Kind.{Kind}}, Points.{IsReached}, Sound.{IsSound}}
use Rattle.lz_machine.specs.{Yards.{Shape}, Runs.{Caller, Service, State, Up, Down, Start, Point, caller_at, first_point, run, shape_of}}
use Rattle.lz_machine.proofs.{Frames.OneActor.{caller_range}, Runs.ReachedPoint.{shape_kept}, Theorem.Reached.{reached_sound, up_at}}
use Rattle.lz_core.specs.{declared.play.Step.{Step as PlayStep}, Worlds.{Ascend, IsAt, IsTold, IsUp, PlaysOn, Shows, WorldOver, next_of_caller}}
use Rattle.lz_core.proofs.Members.ShownKeys.{ascend_from, members_reached}
use Rattle.lz_rehearsal.specs.{declared.line.Line.{Line, TheVariants.{Call, Turn, Until, Finish, Trip, Stop, Crash, Open, Show}}, Limits.{most_turns}}
use Rattle.lz_rehearsal.specs.Rehearsals.{Does, IsShow, IsStep, Rehearsed, Turns, enough, ended, busy, met, again, nothing, more}
use Rattle.lz_rehearsal.{specs.Histories.{RehearsalsReadBack}, proofs.{LawfulMarks.{run_lawful}, Rehearsed.{play_of}}}
use Rattle.lz_rehearsal.proofs.{SaidText.{Says, said_reads, says_join, says_marks, says_one, says_silence}, SilentLines.{busy_silent, show_silent}}

-- an actor that took a turn has a call, so it is one of the service's
has_call : (service : Service) (a : ℕ) (caller : Option Caller) (P : Event → Type 0) → caller_at service.callers a ≡ caller → IsSomeAnd (next_of_caller service caller) P
    → (1 ≤ a) × (a ≤ length service.callers)
has_call service a None P at is = absurd is
has_call service a (Some caller) P at is = caller_range service.callers a caller at

actor_range : (start : Start) → start.shape.passes ≤ most_actors → (p : Point) (w new : State) (a : ℕ) (kind : Kind) (outcome : Outcome) → IsReached start p → p.state ≡ w → IsTold w a kind outcome new
    → (1 ≤ a) × (a ≤ most_actors)
actor_range start few p (Up service disk) new a kind outcome reached at told =
    let within = has_call service a (caller_at service.callers a) _ refl told in
    let sound = subst (IsSound start) reached.point (reached_sound start reached.steps reached.starts reached.runs) in
    let count = (up_at start p service disk sound at).up.sound.callers.count in
    let shape : service.yard.shape ≡ start.shape = subst (λ (q : State). shape_of q ≡ start.shape) at (shape_kept start p reached) in
    (within.0, omega (arith, within.1, count, ap (λ (s : Shape). s.passes) shape, few))
actor_range start few p (Down shape disk) new a kind outcome reached at told = absurd told

-- the keys that are shown are keys of the service
keys_ascend : (start : Start) (p : Point) (w : State) (keys : List ℕ) → IsReached start p → p.state ≡ w → IsUp w → Shows w keys → Ascend keys → AscendFrom 0 keys
keys_ascend start p (Up service disk) keys reached at up shows ascend =
    let words = service.yard.words in
    let among = members_reached start p service disk reached at in
    ascend_from words (length words.links) keys (λ k. ((λ is. (among k).1 ((shows k).0 is)), (λ is. (shows k).1 ((among k).0 is)))) ascend
keys_ascend start p (Down shape disk) keys reached at up shows ascend = absurd up

-- a run leads to where the world is
record IsOn (start : Start) (w : WorldOver) : Type 0 where
  point : Point
  reached : IsReached start point
  at : IsAt w.state w.calls point

module _ (start : Start) (most : start.shape.passes ≤ most_actors) where
  on_after : (old new : WorldOver) (plays : List PlayStep) (marks : List HistoryEvent) → IsOn start old → PlaysOn old plays marks new → IsOn start new
  on_after old new plays marks on goes =
      let leads = goes on.point on.at in
      record { point = run on.point leads.played.steps; reached = leads.reached start on.reached; at = record { state = leads.played.state; calls = leads.calls } }

  of_run : (old new : WorldOver) (plays : List PlayStep) (marks : List HistoryEvent) → IsOn start old → PlaysOn old plays marks new → AreMarksOfRun marks
  of_run old new plays marks on goes = (goes on.point on.at).of_run

  turns_say : (a : ℕ) (awaited : Option Kind) (n : ℕ) (old new : WorldOver) (marks : List HistoryEvent) (text : List ℕ) → IsOn start old → Turns a awaited n old marks text new → Says marks text
  turns_say a awaited _ _ _ _ _ on (enough w) = said.nothing
  turns_say a awaited _ _ _ _ _ on (ended n old new kind outcome mark is) = says_one mark (of_run old new (step.Turn a ∷ []) (mark ∷ []) on is.0).0
  turns_say a awaited _ _ _ _ _ on (busy n old new kind is) =
      let range = actor_range start most on.point old.state new.state a kind Busy on.reached on.at.state is.1 in
      says_silence (codes "busy " ++ decimal a) (busy_silent a range.0 range.1)
  turns_say a awaited _ _ _ _ _ on (met n old new kind outcome is free same) = said.nothing
  turns_say a awaited _ _ _ _ _ on (again n old mid new kind outcome marks text is free other rest) =
      turns_say a awaited n mid new marks text (on_after old mid (step.Turn a ∷ []) [] on is.0) rest

  step_says : (old new : WorldOver) (play : PlayStep) (marks : List HistoryEvent) (text : List ℕ) → IsOn start old → IsStep old play marks text new → Says marks text
  step_says old new play marks text on is = subst (Says marks) (sym is.1) (says_marks marks (of_run old new (play ∷ []) marks on is.0))

  show_says : (old new : WorldOver) (marks : List HistoryEvent) (text : List ℕ) → IsOn start old → IsShow old marks text new → Says marks text
  show_says old new marks text on is =
      let ascend = keys_ascend start on.point old.state is.keys on.reached on.at.state is.up is.members is.ascend in
      let written = says_silence (codes "show" ++ keys_text is.keys) (show_silent is.keys ascend) in
      subst (λ (ms : List HistoryEvent). Says ms text) (sym is.none) (subst (Says []) (sym is.shown) written)

  line_says : (old new : WorldOver) (line : Line) (marks : List HistoryEvent) (text : List ℕ) → IsOn start old → Does old line marks text new → Says marks text
  line_says old new (Call a c) marks text on does = step_says old new (step.Call a c) marks text on does
  line_says old new (Turn a n) marks text on does = turns_say a None n old new marks text on does
  line_says old new (Until a kind) marks text on does = turns_say a (Some kind) most_turns old new marks text on does
  line_says old new (Finish a) marks text on does = turns_say a None most_turns old new marks text on does
  line_says old new Trip marks text on does = step_says old new step.Trip marks text on does
  line_says old new Stop marks text on does = step_says old new step.Stop marks text on does
  line_says old new (Crash pick) marks text on does = step_says old new (step.Crash pick) marks text on does
  line_says old new Open marks text on does = step_says old new step.Open marks text on does
  line_says old new Show marks text on does = show_says old new marks text on does

  rehearsal_says : (first last : WorldOver) (lines : List Line) (marks : List HistoryEvent) (text : List ℕ) → IsOn start first → Rehearsed first lines marks text last → Says marks text
  rehearsal_says first _ _ _ _ on nothing = said.nothing
  rehearsal_says first _ _ _ _ on (more lines line marks seen text written mid new before does) =
      let play = play_of first mid lines marks text before in
      says_join marks seen text written (rehearsal_says first mid lines marks text on before) (line_says mid new line seen written (on_after first mid play.0 marks on play.1) does)

pub rehearsals_read_back : RehearsalsReadBack
rehearsals_read_back shape format first last lines marks text new rehearsed few fits =
    let start = new.start in
    let most : start.shape.passes ≤ most_actors = subst (λ (s : Shape). s.passes ≤ most_actors) (sym new.shape) new.few in
    let play = play_of first last lines marks text rehearsed in
    let leads = play.1 (first_point start) new.at in
    let lawful = subst IsLawful (leads.played.all_marks ∙ append-nil (reverse marks)) (run_lawful start leads.played.steps new.starts leads.played.runs) in
    let on : IsOn start first = record { point = first_point start; reached = record { steps = []; starts = new.starts; runs = tt; point = refl }; at = new.at } in
    said_reads marks text (rehearsal_says start most first last lines marks text on rehearsed) lawful few fits

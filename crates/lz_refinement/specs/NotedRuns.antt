-- How the pen's notes are read as a run of the machine. Both stand newest first.
use Rattle.std.specs.Prelude.{◌≡◌, ℕ, ◌+◌, Bool, IsTrue, List, [], ◌∷◌, ◌++◌, map, replicate, Option, Some, None}
use Rattle.lz_slot.specs.declared.command.Command.{Command}
use Rattle.lz_disk.specs.Images.{Medium}
use Rattle.lz_list.specs.Traces.{Trace}
use Rattle.lz_machine.specs.declared.{event.{Event.{Event, TheVariants.{Hop, SeePin}}, Outcome.TheVariants.{Fault}}, caller.Progress.{Progress}}
use Rattle.lz_machine.specs.{Yards.{Shape, Yard}, Table.{line, line_publishes, pin_of}, Calls.{event_at}, Runs.{Start, IsStart, State, Up, Service, Caller}}
use Rattle.lz_machine.specs.Runs.{Transition, Calls, Turn, Fails, Looks, Point, run, IsRun, first_point, caller_at, next_event}
use Rattle.lz_board.specs.{declared.view.{What.{What, TheVariants.{Called, Played, Found}}, Note.{Note}, Load.{Load}}, Notes.{as_list, place, load_note}}

-- In this state the note says of the step what the table says of it: the event, the outcome and what is published.
abbrev pub TellsTurn : Service → ℕ → Option Caller → Note → Type 0
TellsTurn service a None n = ⊥
TellsTurn service a (Some caller) n =
    (n.what ≡ Played (next_event service.yard caller) (line service.yard a (next_event service.yard caller)).1)
    × (as_list n.published ≡ line_publishes service.yard a (next_event service.yard caller))

abbrev pub TellsFault : Service → Option Caller → Note → Type 0
TellsFault service None n = ⊥
TellsFault service (Some caller) n = (n.what ≡ Played (next_event service.yard caller) Fault) × (n.published ≡ None)

abbrev pub TellsStep : State → Note → Transition → Type 0
TellsStep (Up service disk) n (Calls a c) = (n.by ≡ a) × (n.what ≡ Called c service.yard.vault.format) × (n.published ≡ None)
TellsStep (Up service disk) n (Turn a) = (n.by ≡ a) × TellsTurn service a (caller_at service.callers a) n
TellsStep (Up service disk) n (Fails a new) = (n.by ≡ a) × TellsFault service (caller_at service.callers a) n
TellsStep _ n _ = ⊥

-- Some note of a step is read as that step. A pin word that was found to have moved is read as so many looks.
pub record TellsLooks (w : State) (q v : ℕ) (new : List Transition) : Type 0 where
  pub looks : ℕ
  pub steps : new ≡ replicate looks (Looks q)
  pub found : (service : Service) (disk : Medium) → w ≡ Up service disk → pin_of service.yard q + looks ≡ v

pub record TellsOne (w : State) (n : Note) (new : List Transition) : Type 0 where
  pub step : Transition
  pub steps : new ≡ step ∷ []
  pub tells : TellsStep w n step

abbrev pub TellsOf : State → Note → What → List Transition → Type 0
TellsOf w n (Found q v) new = (n.by ≡ 0) × (n.published ≡ None) × TellsLooks w q v new
TellsOf w n (Called c format) new = TellsOne w n new
TellsOf w n (Played e o) new = TellsOne w n new

abbrev pub NoteTells : State → Note → List Transition → Type 0
NoteTells w n new = TellsOf w n n.what new

abbrev pub ReadsAs : Point → List Note → List Transition → Type 0
ReadsAs p [] steps = steps ≡ []
ReadsAs p (n ∷ ns) steps = (new : List Transition) × (before : List Transition) × (steps ≡ new ++ before) × NoteTells (run p before).state n new × ReadsAs p ns before

-- what of an open call its own steps decide: all but its number
abbrev pub viewed : Option Caller → Option (Command × Progress)
viewed None = None
viewed (Some caller) = Some (caller.command, caller.progress)

-- the loads, which stand before these steps of a pass, are those that its call makes next
abbrev pub IsHopAt : Shape → Load → Option (Command × Progress) → Type 0
IsHopAt shape h None = ⊥
IsHopAt shape h (Some call) = event_at shape call.0 call.1 ≡ Hop h.word

abbrev pub AreNext : Shape → ℕ → List Load → List Note → Type 0
AreNext shape p [] steps = Unit {0}
AreNext shape p (h ∷ hs) steps = IsHopAt shape h (place shape (map (load_note p) hs ++ steps)) × AreNext shape p hs steps

-- the same yard, but for its copies of pin words
pub record SameButAllPins (one other : Yard) : Type 0 where
  pub shape : one.shape ≡ other.shape
  pub heads : one.words.heads ≡ other.words.heads
  pub links : one.words.links ≡ other.words.links
  pub keys : one.words.keys ≡ other.words.keys
  pub halt : one.words.halt ≡ other.words.halt
  pub locks : one.locks ≡ other.locks
  pub vault : one.vault ≡ other.vault
  pub uses : one.uses ≡ other.uses
  pub actors : one.actors ≡ other.actors

-- The invariant under the lock: the notes are read as a run of the machine, and its last state is the yard's, pin words
-- aside, which live on the board, and the disk's where the device is honest.
pub record IsTied (opened : Trace) (ns : List Note) (y : Yard) (honest : Bool) (disk : Medium) : Type 0 where
  pub start : Start
  pub steps : List Transition
  pub service : Service
  pub medium : Medium
  pub starts : IsStart start
  pub runs : IsRun (first_point start) steps
  pub reads : ReadsAs (first_point start) ns steps
  pub begins : opened ≡ (first_point start).trace
  pub state : (run (first_point start) steps).state ≡ Up service medium
  pub yard : SameButAllPins y service.yard
  pub device : IsTrue honest → disk ≡ medium

-- the event that a hold plays: a pin word that is looked at has the value that the notes give it
abbrev pub seen_event : (ℕ → ℕ) → Event → Event
seen_event pins (SeePin q v) = SeePin q (pins q)
seen_event pins e = e

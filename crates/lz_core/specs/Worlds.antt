-- What contracts see of a world, and what a play does to it.
use Rattle.lz_core.specs.declared.world.PlayFault.TheVariants as play_fault
use Rattle.std.specs.Prelude.{◌≡◌, ◌≢◌, ◌⊎◌, ◌↔◌, ℕ, suc, Bool, true, false, if◌then◌else◌, ◌-◌, ◌<◌, ◌≤◌, IsTrue, IsNone, IsSome, IsSomeAnd, List, [], ◌∷◌}
use Rattle.std.specs.{Prelude.{◌++◌, length, map, reverse, take, slice_get, slice_index_or, Option, Some, None}, List.{All}}
use Rattle.lz_slot.specs.{Limits.{most_actors, largest_key}, declared.{history.HistoryEvent.{HistoryEvent}, format.Format.{Format}}, Sets.{Keys, Same, members}}
use Rattle.lz_slot.specs.{Histories.{ChainTo, lives}, Bytes.{Holds, format_of}}
use Rattle.lz_disk.specs.{Images.{Medium, at_rest}, Records.{Past, after, device_of}}
use Rattle.lz_machine.specs.{declared.{event.{Event.{Event}, Outcome.{Outcome, TheVariants.{Fault}}}, kind.Kind.{Kind}}, Kinds.{kind_of}, Yards.{Shape}}
use Rattle.lz_machine.specs.{Table.{line, line_failed, needs}, Orders.{shape_with}, Calls.{event_at, loaded, progress_after}, Ready.{IsEventOf}, Runs.{Start}}
use Rattle.lz_machine.specs.Runs.{IsStart, start_keys, first_point, Service, Caller, State, Up, Down, Transition, Turn, Fails, MayStep, state_after}
use Rattle.lz_machine.specs.Runs.{calls_made_after, marks_of, caller_at, next_event, reply_at, moved_on, MayPlay, IsActor, MayLeave, Point, run}
use Rattle.lz_machine.specs.Points.{IsBetweenLooks, IsReached}
use Rattle.lz_core.specs.declared.{play.Step.{Step as PlayStep, TheVariants.{Call, Turn as TurnOf, Open}}, open_calls.OpenCall.{OpenCall}}
use Rattle.lz_core.specs.{declared.world.PlayFault.{PlayFault}, Plays.{IsPlayOf, PlaysTo}, Trips.{CallsDevice, GoAsTripped, IsFailure, tripped_by}}
use Rattle.lz_vault.specs.{Opens.{open_fault_number}, declared.opening.OpenFault.{OpenFault, TheVariants.{Device, Memory}}}
use Rattle.lz_yard.specs.{declared.told.Told.{Told}, Parts.{YardOver}, Steps.{Played}}
use Rattle.lz_list.specs.{declared.word.Word.TheVariants.{Key}, Words.{Words, get}, Lists.{IsMember}}
use Rattle.lz_judge.specs.MarkLines.{AreMarksOfRun, IsCallNumber}

-- A world as contracts see it: its state in a run, how many calls were made, and whether its device's next call fails.
pub record WorldOver : Type 0 where
  pub state : State
  pub calls : ℕ
  pub tripped : Bool

-- an open call, as a run has it
abbrev pub call_shown : Option OpenCall → Option Caller
call_shown None = None
call_shown (Some call) = Some (record { number = call.number; command = call.caller.command; progress = call.caller.progress })

-- the state of a world that has a yard, or else a disk
abbrev pub state_shown : Shape → Option (YardOver Past) → Option Past → List (Option OpenCall) → State
state_shown shape (Some over) disk callers = Up (record { yard = over.yard; callers = map call_shown callers }) (after over.disk.bytewise over.disk.start over.disk.records)
state_shown shape None (Some disk) callers = Down shape (after disk.bytewise disk.start disk.records)
state_shown shape None None callers = Down shape (at_rest false [])

-- a world of these parts
abbrev pub world_shown : Shape → Option (YardOver Past) → Option Past → List (Option OpenCall) → ℕ → Bool → WorldOver
world_shown shape yard disk callers calls tripped = record { state = state_shown shape yard disk callers; calls = calls; tripped = tripped }

-- a service is open
abbrev pub IsUp : State → Type 0
IsUp (Up service disk) = Unit {0}
IsUp (Down shape disk) = ⊥

-- its disk
abbrev pub disk_shown : Option (YardOver Past) → Option Past → Medium
disk_shown (Some over) disk = after over.disk.bytewise over.disk.start over.disk.records
disk_shown None (Some disk) = after disk.bytewise disk.start disk.records
disk_shown None None = at_rest false []

-- it has one of the two
abbrev pub HasOne : Option (YardOver Past) → Option Past → Type 0
HasOne (Some over) None = Unit {0}
HasOne None (Some disk) = Unit {0}
HasOne _ _ = ⊥

-- a disk whose next call fails, if so, and of an open yard
abbrev pub armed : Bool → Past → Past
armed tripped disk = record disk { trip = if tripped then Some 0 else disk.trip }

abbrev pub armed_yard : Bool → Option (YardOver Past) → Option (YardOver Past)
armed_yard tripped None = None
armed_yard tripped (Some over) = Some (record over { disk = armed tripped over.disk })

-- this state, after so many calls, is at this point of a run
pub record IsAt (w : State) (made : ℕ) (p : Point) : Type 0 where
  pub state : p.state ≡ w
  pub calls : p.calls ≡ made

-- some run of a yard of this shape leads to this state
pub record HasRun (its_shape : Shape) (w : State) (calls : ℕ) : Type 0 where
  pub start : Start
  pub shape : start.shape ≡ its_shape
  pub point : Point
  pub reached : IsReached start point
  pub at : IsAt w calls point
  pub quiet : IsBetweenLooks w

-- an open call is one on a yard of this shape, with a number
abbrev pub IsCallOn : Shape → Option OpenCall → Type 0
IsCallOn shape None = Unit {0}
IsCallOn shape (Some call) = (call.caller.buckets ≡ shape.buckets) × (call.caller.passes ≡ shape.passes) × IsCallNumber call.number

-- A world has a yard or a disk, a place for the call of each actor, and has come by a run to where it is.
pub record IsWorld (shape : Shape) (over : Option (YardOver Past)) (disk : Option Past) (callers : List (Option OpenCall)) (calls : ℕ) : Type 0 where
  pub one : HasOne over disk
  pub count : length callers ≡ shape.passes
  pub on_it : (i : ℕ) (call : Option OpenCall) → slice_get callers i ≡ Some call → IsCallOn shape call
  pub ran : HasRun shape (state_shown shape over disk callers) calls

-- a world that was just made: it has no more actors than a history may have, and its run begins with a file of the format that holds the empty set
pub record IsNew (its_shape : Shape) (format : Format) (w : WorldOver) : Type 0 where
  pub start : Start
  pub starts : IsStart start
  pub shape : start.shape ≡ its_shape
  pub few : its_shape.passes ≤ most_actors
  pub empty : Same (start_keys start) (members [])
  pub named : format_of start.text ≡ format
  pub at : IsAt w.state w.calls (first_point start)
  pub untripped : w.tripped ≡ false

-- From a point at which a world was, tripped or not, the steps of a play lead, one for one, to where it is now, and answer these
-- marks, which are those of a run; what leads to the one point leads to the other; and the device fails where it was tripped.
pub record LeadsTo (p : Point) (was_tripped : Bool) (plays : List PlayStep) (marks : List HistoryEvent) (new : WorldOver) : Type 0 where
  pub played : PlaysTo p plays marks new.state
  pub calls : (run p played.steps).calls ≡ new.calls
  pub reached : (start : Start) → IsReached start p → IsReached start (run p played.steps)
  pub of_run : AreMarksOfRun marks
  pub as_tripped : GoAsTripped p was_tripped played.steps
  pub tripped : tripped_by was_tripped played.steps ≡ new.tripped

abbrev pub PlaysOn : WorldOver → List PlayStep → List HistoryEvent → WorldOver → Type 0
PlaysOn old plays marks new = (p : Point) → IsAt old.state old.calls p → LeadsTo p old.tripped plays marks new

-- What was seen before and now is a chain of lives: each text that a crash may leave now holds the set to which it leads.
abbrev pub IsChain : WorldOver → List HistoryEvent → WorldOver → Type 0
IsChain old marks new =
    (start : Start) (p : Point) (t : List ℕ)
    → IsReached start p → IsAt old.state old.calls p → MayLeave new.state t
    → (S : Keys) × Holds t start.shape.slots S × ChainTo (lives (start_keys start) (reverse marks ++ p.marks)) S

-- A step is lawful in a state.
abbrev pub IsLawful : State → PlayStep → Type 0
IsLawful (Up service disk) (Call a c) = IsActor service a × IsNone (caller_at service.callers a)
IsLawful (Up service disk) (TurnOf a) = IsSome (caller_at service.callers a)
IsLawful (Up service disk) Open = ⊥
IsLawful (Up service disk) _ = Unit {0}
IsLawful (Down shape disk) (Call a c) = ⊥
IsLawful (Down shape disk) (TurnOf a) = ⊥
IsLawful (Down shape disk) _ = Unit {0}

-- Step i, counted from 1, is the first one that isn't lawful: the world stands as after the steps before it.
pub record StopsAt (old : WorldOver) (plays : List PlayStep) (i : ℕ) (new : WorldOver) : Type 0 where
  pub marks : List HistoryEvent
  pub before : PlaysOn old (take (i - 1) plays) marks new
  pub step : PlayStep
  pub there : (1 ≤ i) × (slice_get plays (i - 1) ≡ Some step)
  pub unlawful : ¬ IsLawful new.state step

-- One step of a play, as a step of a run; whether the device was tripped isn't looked at.
pub record Goes (old : WorldOver) (play : PlayStep) (step : Transition) (marks : List HistoryEvent) (new : WorldOver) : Type 0 where
  pub is : IsPlayOf old.state play step
  pub may : MayStep old.state step
  pub to : state_after (suc old.calls) old.state step ≡ new.state
  pub counts : calls_made_after old.calls step ≡ new.calls
  pub told : marks_of (suc old.calls) old.state step ≡ reverse marks

-- A turn was taken: it was done, with no device call where the device was tripped, or its device call failed.
pub record TakesTurn (old : WorldOver) (a : ℕ) (outcome : Outcome) (marks : List HistoryEvent) (new : WorldOver) : Type 0 where
  pub done : outcome ≢ Fault → Goes old (TurnOf a) (Turn a) marks new × (IsTrue old.tripped → ¬ CallsDevice old.state a)
  pub failed : outcome ≡ Fault → (left : Medium) × Goes old (TurnOf a) (Fails a left) marks new
  pub of_run : AreMarksOfRun marks
  pub tripped : new.tripped ≡ old.tripped

-- A device call of this step found no memory: the world stands as after one that failed, though the device wasn't tripped.
pub record LacksMemory (old : WorldOver) (play : PlayStep) (new : WorldOver) : Type 0 where
  pub step : Transition
  pub failure : IsFailure step
  pub marks : List HistoryEvent
  pub goes : Goes old play step marks new
  pub untripped : (old.tripped ≡ false) × (new.tripped ≡ false)

-- the next step of a play after the first so many is one that lacked memory
abbrev pub LacksNext : WorldOver → List PlayStep → ℕ → WorldOver → Type 0
LacksNext old plays count new = IsSomeAnd (slice_get plays count) (λ play. LacksMemory old play new)

-- The world stands as after some of the first steps, or as after one more of them, which lacked memory.
pub record StopsEarly (old : WorldOver) (plays : List PlayStep) (new : WorldOver) : Type 0 where
  pub count : ℕ
  pub few : count ≤ length plays
  pub marks : List HistoryEvent
  pub mid : WorldOver
  pub before : PlaysOn old (take count plays) marks mid
  pub last : (new ≡ mid) ⊎ LacksNext mid plays count new

-- an actor's next event, if it has a call
abbrev pub next_of_caller : Service → Option Caller → Option Event
next_of_caller service None = None
next_of_caller service (Some caller) = Some (next_event service.yard caller)

-- the next event that an open call asks for, but for a pin word that is loaded
abbrev pub event_asked : Option OpenCall → Option Event
event_asked None = None
event_asked (Some call) = Some (event_at (shape_with call.caller) call.caller.command call.caller.progress)

abbrev pub event_loaded : Words → Option Event → Option Event
event_loaded w None = None
event_loaded w (Some e) = Some (loaded w e)

abbrev pub next_of : State → ℕ → Option Event
next_of (Up service disk) a = next_of_caller service (caller_at service.callers a)
next_of (Down shape disk) a = None

-- the outcome of an event and the yard after it are those of its line, or of the line's device call failing
abbrev pub IsOutcome : State → ℕ → Event → Outcome → State → Type 0
IsOutcome (Up service disk) a e outcome (Up service' disk') =
    ((outcome ≡ (line service.yard a e).1) × (service'.yard ≡ (line service.yard a e).0))
    ⊎ ((outcome ≡ Fault) × (service'.yard ≡ (line_failed service.yard a e).0))
IsOutcome (Up service disk) a e outcome (Down shape disk') = ⊥
IsOutcome (Down shape disk) a e outcome new = ⊥

-- a turn told its event's kind and outcome
abbrev pub IsTold : State → ℕ → Kind → Outcome → State → Type 0
IsTold old a told outcome new = IsSomeAnd (next_of old a) (λ e. (told ≡ kind_of e) × IsOutcome old a e outcome new)

-- the number by which a program tells a fault
abbrev pub play_fault_number : PlayFault → ℕ
play_fault_number (play_fault.NotNow step) = 1
play_fault_number play_fault.Memory = 2

-- the marks of a turn
abbrev pub mark_list : Option HistoryEvent → List HistoryEvent
mark_list None = []
mark_list (Some mark) = mark ∷ []

-- these keys ascend
abbrev pub Ascend : List ℕ → Type 0
Ascend [] = Unit {0}
Ascend (k ∷ keys) = All (λ j. k < j) keys × Ascend keys

-- the word of a slot is this key, which is a member
abbrev pub IsListed : Words → ℕ → ℕ → Type 0
IsListed w s k = (get w (Key s) ≡ k) × IsMember w k × (k ≤ largest_key)

-- the key is that of one of the first n slots
abbrev pub IsAmong : Words → ℕ → ℕ → Type 0
IsAmong w n k = (s : ℕ) × (s < n) × IsListed w s k

-- the keys are those that are linked and not marked; there are none without an open service
abbrev pub Shows : State → List ℕ → Type 0
Shows (Up service disk) keys = (k : ℕ) → (members keys k ≡ true) ↔ IsMember service.yard.words k
Shows (Down shape disk) keys = keys ≡ []

-- an open call after its next event had this outcome
abbrev pub call_after : Option OpenCall → Outcome → Option Caller
call_after None outcome = None
call_after (Some call) outcome =
    moved_on (reply_at call.caller.progress) (record { number = call.number; command = call.caller.command; progress = call.caller.progress })
    (progress_after (shape_with call.caller) call.caller.command call.caller.progress outcome)

-- an actor's event may be played on a yard
pub record MayStepOn (over : YardOver Past) (a : ℕ) (e : Event) : Type 0 where
  pub actor : (1 ≤ a) × (a ≤ over.yard.shape.passes)
  pub event : IsEventOf over.yard e
  pub plays : needs over.yard a e ≡ true → MayPlay over.yard true (after over.disk.bytewise over.disk.start over.disk.records) a e

-- the service is open, and the actor is one of the world's without a call
abbrev pub MayCall : Option (YardOver Past) → List (Option OpenCall) → ℕ → Type 0
MayCall yard callers a = IsSome yard × (1 ≤ a) × (a ≤ 64) × IsNone (slice_index_or callers (a - 1) None)

-- The number with which a refused open is told. Lack of memory isn't told, which a device tells as a failure too.
abbrev pub fault_told : OpenFault → Bool → Option ℕ
fault_told Memory tripped = None
fault_told Device false = None
fault_told fault tripped = Some (open_fault_number fault)

-- an event was played on an open yard
abbrev pub StepsOn : Option (YardOver Past) → ℕ → Event → Outcome → Option (YardOver Past) → Type 0
StepsOn (Some old) a e outcome (Some new) = (told : Told) × Played old.yard a e outcome new.yard told (device_of old.disk) (device_of new.disk)
StepsOn None a e outcome new = new ≡ None
StepsOn (Some old) a e outcome None = ⊥

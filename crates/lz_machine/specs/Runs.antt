-- Runs of the machine: callers' steps, device failures, stops, crashes and opens. Steps, marks and traces stand newest first.
use Rattle.std.specs.Prelude.{◌≡◌, ◌≢◌, ◌⊎◌, ℕ, suc, ◌+◌, ◌*◌, ◌≤◌, Bool, true, false, List, [], ◌∷◌, ◌++◌, map, replicate, Option, Some, None, IsTrue, IsNone}
use Rattle.std.specs.Prelude.{IsSomeAnd}
use Rattle.lz_slot.specs.declared.{command.Command.{Command}, format.Format.{Format}}
use Rattle.lz_slot.specs.declared.history.Refusal.TheVariants.{Full as refused_full, Worn as refused_worn, OldFile as refused_old_file}
use Rattle.lz_slot.specs.declared.history.{Cut.TheVariants.{Halted as cut_halted, Device as cut_device}, HistoryEvent.{HistoryEvent}}
use Rattle.lz_slot.specs.declared.history.HistoryEvent.TheVariants.{Call, Answer, Refused, Cut, Stop, Crash, Opened, OpenFailed}
use Rattle.lz_slot.specs.{Limits.{largest_key, most_buckets, most_passes}, Sets.{Keys, members, key_of}, Counted.{of_pass, set_of_pass}, Histories.{History}}
use Rattle.lz_slot.specs.Bytes.{open_byte, header_body, Holds, format_of, held}
use Rattle.lz_disk.specs.Images.{Medium, IsImage, AreBytes, at_rest, synced}
use Rattle.lz_vault.specs.{Stages.{Suits}, Vaults.{medium_after, MayFail}}
use Rattle.lz_allot.specs.Uses.{is_outside, Moment, Pins, Unlinking}
use Rattle.lz_list.specs.declared.{word.Word.TheVariants.{Pin as pin_word}, publishing.Publishing.{Publishing, TheVariants.{Unlinked as unlinked}}}
use Rattle.lz_list.specs.{Words.{Words, get, set}, Traces.{Trace, insert}}
use Rattle.lz_machine.specs.declared.event.{Event.{Event, TheVariants.{Invoke}}, Outcome.{Outcome, TheVariants.{NotNow}}, Reply.{Reply}}
use Rattle.lz_machine.specs.declared.{event.Reply.TheVariants.{Yes, No, Full, Worn, OldFile, Halted, Device}, caller.Progress.{Progress}}
use Rattle.lz_machine.specs.{declared.caller.Progress.TheVariants.{Answering}, Yards.{Shape, Yard, actor_at, opened_yard, first_trace}}
use Rattle.lz_machine.specs.{Table.{yard_done, line, line_failed, line_call, line_publishes, pin_of, last_pin}, OpenFailures.{IsOpenFailure}}
use Rattle.lz_machine.specs.Calls.{begun, event_at, progress_after, loaded}

-- A call that is open: its number, its command and how far it has come.
pub record Caller : Type 0 where
  pub number : ℕ
  pub command : Command
  pub progress : Progress

-- The service and its callers, by actor from 1.
pub record Service : Type 0 where
  pub yard : Yard
  pub callers : List (Option Caller)

-- With an open service or without.
pub data State : Type 0 where
  Up : Service → Medium → State
  Down : Shape → Medium → State

abbrev pub disk_of : State → Medium
disk_of (Up service disk) = disk
disk_of (Down shape disk) = disk

abbrev pub shape_of : State → Shape
shape_of (Up service disk) = service.yard.shape
shape_of (Down shape disk) = shape

-- What may happen next.
pub data Transition : Type 0 where
  Calls : ℕ → Command → Transition
  -- an actor's next event, whose device call, if it has one, succeeds
  Turn : ℕ → Transition
  -- an actor's next event, whose device call fails and leaves this disk
  Fails : ℕ → Medium → Transition
  -- an actor without a call looks: its pin word goes up by one, and later by one again
  Looks : ℕ → Transition
  -- the next device call will fail: it changes nothing here, since any device call may fail
  Trips : Transition
  Stops : Transition
  -- a crash that leaves this text
  Crashes : List ℕ → Transition
  -- a crash inside the device call of an actor's next event
  CrashesIn : ℕ → List ℕ → Transition
  Opens : Transition
  -- an open that is refused, with its number, and whether its sync was done
  OpenFails : ℕ → Bool → Transition

abbrev pub caller_at : List (Option Caller) → ℕ → Option Caller
caller_at callers a = of_pass callers a None

-- the next event of a caller
abbrev pub next_event : Yard → Caller → Event
next_event y caller = loaded y.words (event_at y.shape caller.command caller.progress)

-- the reply that a caller is about to give
abbrev pub reply_at : Progress → Option Reply
reply_at (Answering reply) = Some reply
reply_at _ = None

-- a call that has answered is closed
abbrev pub moved_on : Option Reply → Caller → Progress → Option Caller
moved_on (Some reply) caller progress = None
moved_on None caller progress = Some (record { number = caller.number; command = caller.command; progress = progress })

-- the service after a caller's event gave this yard and outcome
abbrev pub played : Service → ℕ → Caller → Yard × Outcome → Service
played service a caller (yard, outcome) =
    record {
      yard = yard;
      callers = set_of_pass service.callers a
          (moved_on (reply_at caller.progress) caller (progress_after yard.shape caller.command caller.progress outcome));
    }

abbrev pub after_turn : Service → Medium → ℕ → Option Caller → State
after_turn service disk a None = Up service disk
after_turn service disk a (Some caller) =
    Up (played service a caller (line service.yard a (next_event service.yard caller)))
    (medium_after (line_call service.yard a (next_event service.yard caller)) disk)

abbrev pub after_fault : Service → Medium → ℕ → Option Caller → State
after_fault service disk a None = Up service disk
after_fault service disk a (Some caller) =
    Up (played service a caller (line_failed service.yard a (next_event service.yard caller))) disk

abbrev pub with_words : Yard → Words → Yard
with_words y words =
    record { shape = y.shape; words = words; locks = y.locks; vault = y.vault; uses = y.uses; actors = y.actors }

abbrev pub looked : Yard → ℕ → Yard
looked y a = with_words y (set y.words (pin_word a) (get y.words (pin_word a) + 1))

-- the yard after the Invoke of a call, which is played on a dead vault too
abbrev pub invoked : Yard → ℕ → Command → Yard
invoked y a c = yard_done y (actor_at y a) a (Invoke c)

abbrev pub opened_service : Shape → List ℕ → Service
opened_service shape t = record { yard = opened_yard shape t; callers = replicate shape.passes None }

-- the state after a step; the number is that of the next call
abbrev pub state_after : ℕ → State → Transition → State
state_after n (Up service disk) (Calls a c) =
    Up (record {
      yard = invoked service.yard a c;
      callers = set_of_pass service.callers a (Some (record { number = n; command = c; progress = begun service.yard.vault.format c }));
    }) disk
state_after n (Up service disk) (Turn a) = after_turn service disk a (caller_at service.callers a)
state_after n (Up service disk) (Fails a new) = after_fault service new a (caller_at service.callers a)
state_after n (Up service disk) (Looks a) = Up (record { yard = looked service.yard a; callers = service.callers }) disk
state_after n (Up service disk) Stops = Down service.yard.shape disk
state_after n (Up service disk) (Crashes t) = Down service.yard.shape (at_rest disk.bytewise t)
state_after n (Up service disk) (CrashesIn a t) = Down service.yard.shape (at_rest disk.bytewise t)
state_after n (Down shape disk) (Crashes t) = Down shape (at_rest disk.bytewise t)
state_after n (Down shape disk) Opens = Up (opened_service shape disk.seen) (synced disk)
state_after n (Down shape disk) (OpenFails why true) = Down shape (synced disk)
state_after n w _ = w

-- the keys that a text of so many slots holds, ascending
abbrev pub by_key : List (ℕ × ℕ) → List (ℕ × ℕ)
by_key [] = []
by_key (f ∷ found) = insert f.0 f.1 (by_key found)

abbrev pub keys_found : List ℕ → ℕ → List ℕ
keys_found t N = map (λ f. f.0) (by_key (held t N))

-- A step may be taken in a state. An open succeeds where what it reads holds a set, and is refused because of the device or
-- when out of memory; a call begins where the actor's pin word is even, so that no look is half done; its key is one of
-- some format.
abbrev pub HasTurn : Service → ℕ → Option Caller → Type 0
HasTurn service a None = ⊥
HasTurn service a (Some caller) = (line service.yard a (next_event service.yard caller)).1 ≢ NotNow

abbrev pub HasFault : Service → Medium → ℕ → Option Caller → Medium → Type 0
HasFault service disk a None new = ⊥
HasFault service disk a (Some caller) new = MayFail (line_call service.yard a (next_event service.yard caller)) disk new

-- a text that a crash inside the device call of an actor's next event may leave: an image of the disk before or after it
abbrev pub LeftInside : Service → Medium → ℕ → Option Caller → List ℕ → Type 0
LeftInside service disk a None t = ⊥
LeftInside service disk a (Some caller) t =
    IsImage disk t ⊎ IsImage (medium_after (line_call service.yard a (next_event service.yard caller)) disk) t

-- the actor is one of the service's
abbrev pub IsActor : Service → ℕ → Type 0
IsActor service a = (1 ≤ a) × (a ≤ service.yard.shape.passes)

abbrev pub MayStep : State → Transition → Type 0
MayStep (Up service disk) (Calls a c) =
    IsActor service a × IsNone (caller_at service.callers a) × IsTrue (is_outside (pin_of service.yard a)) × (key_of c ≤ largest_key)
MayStep (Up service disk) (Turn a) = HasTurn service a (caller_at service.callers a)
MayStep (Up service disk) (Fails a new) = HasFault service disk a (caller_at service.callers a) new
MayStep (Up service disk) (Looks a) = IsActor service a × IsNone (caller_at service.callers a) × (pin_of service.yard a ≢ last_pin)
MayStep (Up service disk) Trips = Unit {0}
MayStep (Up service disk) Stops = Unit {0}
MayStep (Up service disk) (Crashes t) = IsImage disk t
MayStep (Up service disk) (CrashesIn a t) = LeftInside service disk a (caller_at service.callers a) t
MayStep (Up service disk) Opens = ⊥
MayStep (Up service disk) (OpenFails why done) = ⊥
MayStep (Down shape disk) (Calls a c) = ⊥
MayStep (Down shape disk) (Turn a) = ⊥
MayStep (Down shape disk) (Fails a new) = ⊥
MayStep (Down shape disk) (Looks a) = ⊥
MayStep (Down shape disk) Trips = Unit {0}
MayStep (Down shape disk) Stops = Unit {0}
MayStep (Down shape disk) (Crashes t) = IsImage disk t
MayStep (Down shape disk) (CrashesIn a t) = ⊥
MayStep (Down shape disk) Opens = Holds disk.seen shape.slots (members (keys_found disk.seen shape.slots))
MayStep (Down shape disk) (OpenFails why done) = IsOpenFailure why

-- the mark of a reply
abbrev pub mark_of : ℕ → Reply → HistoryEvent
mark_of i Yes = Answer i true
mark_of i No = Answer i false
mark_of i (Full counts) = Refused i refused_full
mark_of i Worn = Refused i refused_worn
mark_of i OldFile = Refused i refused_old_file
mark_of i Halted = Cut i cut_halted
mark_of i Device = Cut i cut_device

abbrev pub mark_of_turn : ℕ → Option Reply → List HistoryEvent
mark_of_turn i None = []
mark_of_turn i (Some reply) = mark_of i reply ∷ []

abbrev pub marks_of_turn : Option Caller → List HistoryEvent
marks_of_turn None = []
marks_of_turn (Some caller) = mark_of_turn caller.number (reply_at caller.progress)

-- the mark of a step, if it has one
abbrev pub marks_of : ℕ → State → Transition → List HistoryEvent
marks_of n (Up service disk) (Calls a c) = Call n a c ∷ []
marks_of n (Up service disk) (Turn a) = marks_of_turn (caller_at service.callers a)
marks_of n w Stops = Stop ∷ []
marks_of n w (Crashes t) = Crash ∷ []
marks_of n w (CrashesIn a t) = Crash ∷ []
marks_of n (Down shape disk) Opens = Opened (keys_found disk.seen shape.slots) ∷ []
marks_of n w (OpenFails why done) = OpenFailed why ∷ []
marks_of n w _ = []

-- The trace of the life after a step: an open that succeeds begins it again, and after a stop or a crash it stays until then.
abbrev pub turn_publishes : Service → ℕ → Option Caller → List Publishing
turn_publishes service a None = []
turn_publishes service a (Some caller) = line_publishes service.yard a (next_event service.yard caller)

abbrev pub trace_after : State → Trace → Transition → Trace
trace_after (Up service disk) P (Turn a) = turn_publishes service a (caller_at service.callers a) ++ P
trace_after (Down shape disk) P Opens = first_trace shape disk.seen
trace_after w P _ = P

-- A point of a run: the state, the marks so far, the trace of the life, and how many calls were made.
pub record Point : Type 0 where
  pub state : State
  pub marks : History
  pub trace : Trace
  pub calls : ℕ

abbrev pub calls_made_after : ℕ → Transition → ℕ
calls_made_after n (Calls a c) = suc n
calls_made_after n _ = n

abbrev pub point_after : Point → Transition → Point
point_after p step =
    record {
      state = state_after (suc p.calls) p.state step;
      marks = marks_of (suc p.calls) p.state step ++ p.marks;
      trace = trace_after p.state p.trace step;
      calls = calls_made_after p.calls step;
    }

-- where these steps lead; the newest stands first
abbrev pub run : Point → List Transition → Point
run p [] = p
run p (step ∷ steps) = point_after (run p steps) step

-- each of these steps may be taken where it comes
abbrev pub IsRun : Point → List Transition → Type 0
IsRun p [] = Unit {0}
IsRun p (step ∷ steps) = MayStep (run p steps).state step × IsRun p steps

-- A life begins by an open of a text that holds a set; nothing of the disk, which is bytewise where the format asks for it, is loose.
pub record Start : Type 0 where
  pub bytewise : Bool
  pub shape : Shape
  pub text : List ℕ

abbrev pub start_keys : Start → Keys
start_keys s = members (keys_found s.text s.shape.slots)

pub record IsStart (s : Start) : Type 0 where
  pub buckets : (1 ≤ s.shape.buckets) × (s.shape.buckets ≤ most_buckets)
  pub passes : (1 ≤ s.shape.passes) × (s.shape.passes ≤ most_passes)
  pub bytes : AreBytes s.text
  pub text : Holds s.text s.shape.slots (start_keys s)
  pub suits : Suits (format_of s.text) (at_rest s.bytewise s.text)

abbrev pub first_point : Start → Point
first_point s =
    record {
      state = Up (opened_service s.shape s.text) (at_rest s.bytewise s.text);
      marks = [];
      trace = first_trace s.shape s.text;
      calls = 0;
    }

-- a freshly made file of a format
abbrev pub made_text : Format → ℕ → List ℕ
made_text F N = (open_byte ∷ header_body F N) ++ replicate (16 * N) 0

-- The state w comes from the start by a list of steps, with marks M and the trace P.
pub record Reached (start : Start) (w : State) (M : History) (P : Trace) : Type 0 where
  pub steps : List Transition
  pub starts : IsStart start
  pub runs : IsRun (first_point start) steps
  pub state : (run (first_point start) steps).state ≡ w
  pub marks : (run (first_point start) steps).marks ≡ M
  pub trace : (run (first_point start) steps).trace ≡ P

-- a crash now may leave this text, also inside the device call of some actor's next event
abbrev pub MayLeave : State → List ℕ → Type 0
MayLeave (Up service disk) t = IsImage disk t ⊎ ((a : ℕ) × LeftInside service disk a (caller_at service.callers a) t)
MayLeave (Down shape disk) t = IsImage disk t

-- What a run shows of pins and unlinkings, the newest first.
abbrev pub pins_of : State → List Moment
pins_of (Up service disk) = Pins service.yard.words.pins ∷ []
pins_of (Down shape disk) = []

abbrev pub unlinking : Publishing → List Moment
unlinking (unlinked k s p) = Unlinking s ∷ []
unlinking _ = []

abbrev pub unlinkings : List Publishing → List Moment
unlinkings [] = []
unlinkings (x ∷ P) = unlinking x ++ unlinkings P

abbrev pub moments_of_step : State → Transition → List Moment
moments_of_step (Up service disk) (Turn a) = unlinkings (turn_publishes service a (caller_at service.callers a))
moments_of_step w _ = []

abbrev pub moments : Point → List Transition → List Moment
moments p [] = pins_of p.state
moments p (step ∷ steps) = pins_of (run p (step ∷ steps)).state ++ moments_of_step (run p steps).state step ++ moments p steps

-- the event is the actor's next one, or begins a call of an actor that has none
abbrev pub IsNext : Service → ℕ → Event → Type 0
IsNext service a (Invoke c) = IsNone (caller_at service.callers a)
IsNext service a e = IsSomeAnd (caller_at service.callers a) (λ caller. next_event service.yard caller ≡ e)

-- the same yard, but for the pin words of other actors
pub record SameButPins (a : ℕ) (one other : Yard) : Type 0 where
  pub shape : one.shape ≡ other.shape
  pub heads : one.words.heads ≡ other.words.heads
  pub links : one.words.links ≡ other.words.links
  pub keys : one.words.keys ≡ other.words.keys
  pub halt : one.words.halt ≡ other.words.halt
  pub pin : pin_of one a ≡ pin_of other a
  pub locks : one.locks ≡ other.locks
  pub vault : one.vault ≡ other.vault
  pub uses : one.uses ≡ other.uses
  pub actors : one.actors ≡ other.actors

-- The actor's next event in some state that is reached is this one, where the yard is that state's but for other actors'
-- pin words, and the disk is that state's where the device is honest.
pub record MayPlay (y : Yard) (honest : Bool) (disk : Medium) (a : ℕ) (e : Event) : Type 0 where
  pub start : Start
  pub service : Service
  pub medium : Medium
  pub history : History
  pub trace : Trace
  pub reached : Reached start (Up service medium) history trace
  pub next : IsNext service a e
  pub yard : SameButPins a y service.yard
  pub device : IsTrue honest → disk ≡ medium

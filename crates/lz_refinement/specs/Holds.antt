-- The value under the lock, and what one hold promises.
use Rattle.std.specs.Prelude.{◌≡◌, ◌≢◌, ◌%◌, ◌==◌, ◌≤◌, ℕ, false, if◌then◌else◌, List, [], ◌∷◌, ◌++◌, map, length, Option, Some, None}
use Rattle.lz_slot.specs.{declared.{command.Command.{Command}, format.Format.{Format}}, Histories.{History}, Limits.{largest_key}, Sets.{key_of}}
use Rattle.lz_disk.specs.{Devices.{Device}, Images.{Medium}}
use Rattle.lz_vault.specs.Vaults.{NoCall}
use Rattle.lz_list.specs.{declared.{publishing.Publishing.{Publishing}, layout.Sizes.{Sizes}}, Traces.{Trace, Lawful}, Pinned.{IsQuiet}}
use Rattle.lz_machine.specs.declared.{caller.Progress.{Progress}, event.{Event.{Event, TheVariants.{Invoke, SeePin}}, Outcome.{Outcome}}}
use Rattle.lz_machine.specs.{declared.event.Outcome.TheVariants.{Done, OldFile, Fault}, Yards.{Shape, Yard, IsInside}}
use Rattle.lz_machine.specs.{Table.{is_old, line, line_call, line_publishes, pin_of}, Calls.{event_at}, Orders.{Calling, HasPass}}
use Rattle.lz_machine.specs.{Runs.{Start, Service, Caller, Up, Reached, caller_at, next_event}, Laws.{hop_of}, CallersSound.{CallerSound, view_of}}
use Rattle.lz_machine.specs.CallsStand.{own_change}
use Rattle.lz_board.specs.declared.view.{What.{What, TheVariants.{Called, Played}}, Note.{Note}, Part.{Part}}
use Rattle.lz_board.specs.Notes.{as_list, trace_of, Since, load_note, stamped, place, shape_of_sizes, pin_after, pin_after_what}
use Rattle.lz_board.specs.{Kept.{is_calling, Knows, PinTold}, Plays.{no_sizes, noted, found_note}, Seats.{BoardId}}
use Rattle.lz_refinement.specs.{NotedRuns.{AreNext, IsTied, seen_event}, Reuse.{ReuseTold}}

-- What the lock keeps, as contracts see it: the pen's notes, the yard, and the disk.
pub record LockedOver (D : Type 0) : Type 0 where
  pub notes : List Note
  pub yard : Yard
  pub disk : D

-- the board of no set: a name that only its owner's contracts give a value
abbrev pub no_board : BoardId
no_board = record { table = record { words = 0; slots = 0; views_name = 0; atom = 0; block = 0; offset = 0; slot_names = [] }; sizes = no_sizes; opened = [] }

abbrev pub sizes_of : Shape → Sizes
sizes_of shape = record { slots = shape.slots; buckets = shape.buckets; passes = shape.passes }

-- The notes are a run of the machine whose last state the yard has, on the board of these sizes.
pub record IsLocked (b : BoardId) (ns : List Note) (y : Yard) (disk : Device) : Type 0 where
  pub sizes : b.sizes ≡ sizes_of y.shape
  pub pins : length y.words.pins ≡ y.shape.passes
  pub tied : IsTied b.opened ns y disk.honest disk.medium
  -- and why a hold may prepare the slot in its actor's hand
  pub reuse : ReuseTold b.sizes b.opened ns y.uses y.actors

-- The pass has this call open: it is the place to which its own steps lead, and its loads since are the call's.
pub record HasCall (h : Part) (c : Calling) : Type 0 where
  pub next : AreNext (shape_of_sizes h.sizes) h.number h.loads h.steps
  pub at : place (shape_of_sizes h.sizes) (map (load_note h.number) h.loads ++ h.steps) ≡ Some (c.command, c.progress)
  pub pass : HasPass h.sizes.passes (event_at (shape_of_sizes h.sizes) c.command c.progress)

-- In a hold, while the pass with this part has joined the pen: the notes, the yard and the disk are as the lock keeps them.
pub record InHold (b : BoardId) (ns : List Note) (y : Yard) (disk : Device) (h : Part) : Type 0 where
  pub locked : IsLocked b ns y disk
  pub knows : Knows b.sizes b.opened ns h
  pub told : PinTold b.sizes ns h.number h.pin

-- the pass has no call open and is outside, and so may make a call
pub record IsIdle (z : Sizes) (h : Part) : Type 0 where
  pub idle : is_calling z h.steps ≡ false
  pub no_loads : h.loads ≡ []
  pub outside : h.pin % 2 ≡ 0

-- what a call's Invoke answers on a file of this format
abbrev pub begins_with : Format → Command → Outcome
begins_with format c = if is_old format c then OldFile else Done

-- a pin word that the event looks at was just found
abbrev pub SeesPin : List Note → Event → Type 0
SeesPin ns (SeePin q v) = (rest : List Note) × (ns ≡ found_note q v ∷ rest)
SeesPin ns e = Unit {0}

-- This is the next event of the pass's call, and no load: a pin word that it looks at has the value that the notes give it.
pub record IsTurn (ns : List Note) (h : Part) (c : Calling) (e : Event) : Type 0 where
  pub call : HasCall h c
  pub event : e ≡ seen_event (λ q. pin_after q ns) (event_at (shape_of_sizes h.sizes) c.command c.progress)
  pub load : hop_of e ≡ None
  pub found : SeesPin ns e

-- What a pass may play in a hold: an Invoke, where it has no call and its pin word was found, or the next event of its call.
abbrev pub MayTurn : Sizes → List Note → Part → Event → Type 0
MayTurn z ns h (Invoke c) = IsIdle z h × (pin_after h.number ns ≡ h.pin) × (key_of c ≤ largest_key)
MayTurn z ns h e = (c : Calling) × IsTurn ns h c e

-- and what its note tells, on a file of this format
abbrev pub what_of : Format → Event → Outcome → What
what_of format (Invoke c) o = Called c format
what_of format e o = Played e o

-- The turn of this pass was played in a state that a run of the machine reaches, with the trace of these notes: it gave what
-- the event's line says there, or its device call failed.
pub record Turned (opened : Trace) (ns : List Note) (h : Part) (c : Command) (at : Progress) (e : Event) (o : Outcome) (x : Option Publishing) : Type 0 where
  pub start : Start
  pub service : Service
  pub medium : Medium
  pub history : History
  pub reached : Reached start (Up service medium) history (trace_of opened ns)
  pub shape : shape_of_sizes h.sizes ≡ service.yard.shape
  pub caller : Caller
  pub call : caller_at service.callers h.number ≡ Some caller
  pub command : caller.command ≡ c
  pub progress : caller.progress ≡ at
  pub next : next_event service.yard caller ≡ e
  pub done : o ≢ Fault → (o ≡ (line service.yard h.number e).1) × (as_list x ≡ line_publishes service.yard h.number e)
  pub failed : o ≡ Fault → (x ≡ None) × (line_call service.yard h.number e ≢ NoCall)
  pub pin : pin_of service.yard h.number ≡ h.pin
  -- where the pass is inside, what its call may rely on since it went in, with the change that was made for it since
  pub stands : IsInside h.pin
      → CallerSound (view_of service.yard.shape service.yard.vault service.yard.actors h.number) h.pin (Some caller) h.begun (trace_of opened ns) (own_change h.number (length h.begun) (trace_of opened ns))

-- One hold of the lock, for a pass: the notes got its loads and then its event, the pass's own steps the same, and it has
-- seen all that was published until then. What came since it last looked was not published for it.
pub record HoldNotes (opened : Trace) (was is : List Note) (n : Note) (before after : Part) : Type 0 where
  pub moment : ℕ
  pub notes : is ≡ noted opened was before (stamped moment n)
  pub sizes : after.sizes ≡ before.sizes
  pub number : after.number ≡ before.number
  pub steps : after.steps ≡ stamped moment n ∷ (map (load_note before.number) before.loads ++ before.steps)
  pub no_loads : after.loads ≡ []
  pub known : after.known ≡ trace_of opened is
  pub since : Since before.number (trace_of opened was) before.known
  -- its pin word, and the trace at its last change
  pub pin : after.pin ≡ pin_after_what before.number before.number n.what before.pin
  pub begun : after.begun ≡ (if after.pin == before.pin then before.begun else after.known)
  -- what a walker may rely on
  pub lawful : Lawful after.sizes.buckets after.sizes.slots after.known
  pub kept : IsInside after.pin → IsQuiet after.sizes.buckets after.begun after.known

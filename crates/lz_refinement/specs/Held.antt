-- What a hold of the lock promises the pass.
use Rattle.std.specs.Prelude.{◌≡◌, ◌≢◌, ℕ, suc, true, List, [], ◌∷◌, None}
use Rattle.lz_slot.specs.declared.{command.Command.{Command}, format.Format.{Format}, history.HistoryEvent.TheVariants.{Call}}
use Rattle.lz_disk.specs.Devices.{Device}
use Rattle.lz_vault.specs.Vaults.{NoCall, Succeeds}
use Rattle.lz_machine.specs.{declared.event.{Event.{Event, TheVariants.{SeePin, Sync}}, Outcome.{Outcome, TheVariants.{Fault}}}, Yards.{Yard}, Table.{is_sure}}
use Rattle.lz_machine.specs.{Calls.{event_at}, Laws.{hop_of}, Orders.{Calling}, Runs.{mark_of_turn, reply_at}}
use Rattle.lz_board.specs.{declared.view.{What.TheVariants.{Called, Played}, Note.{Note}, Part.{Part}}, Notes.{Extends, note_by, shape_of_sizes, trace_of}}
use Rattle.lz_board.specs.{Plays.{found_note}, Seats.{BoardId}}
use Rattle.lz_refinement.specs.{declared.playing.Turn.{Turn}, OnePass.{OnlyOwn}, Marks.{Shows, calls_in, last_call_number}}
use Rattle.lz_refinement.specs.Holds.{HasCall, HoldNotes, IsTurn, Turned, begins_with}

-- The event is the next one of the pass's call c, and no load.
pub record IsNextOf (h : Part) (c : Calling) (e : Event) : Type 0 where
  pub call : HasCall h c
  pub event : e ≡ event_at (shape_of_sizes h.sizes) c.command c.progress
  pub load : hop_of e ≡ None

-- A call of command c was made: the pass's pin word was found, and the Invoke noted. The pass had seen what the life began with.
pub record Began (b : BoardId) (F : Format) (was is : List Note) (c : Command) (t : Turn) (before after : Part) : Type 0 where
  pub outcome : t.outcome ≡ begins_with F c
  pub shows : Shows (shape_of_sizes b.sizes) was is (Call (suc (calls_in was)) before.number c ∷ [])
  pub holds : HoldNotes b.opened (found_note before.number before.pin ∷ was) is (note_by before.number (Called c F) None) before after
  pub opened : Extends before.known b.opened

-- the notes on which an event is played: those of the lock, and the pin word that it looks at
abbrev pub found_for : Event → List Note → List Note
found_for (SeePin q v) was = found_note q v ∷ was
found_for e was = was

-- Where the event is the Sync of a slot whose last write was durable in this yard, it called no device, and so it didn't fail.
abbrev pub SparesDevice : Yard → Event → Outcome → Device → Device → Type 0
SparesDevice y e o old new = (slot : ℕ) → e ≡ Sync slot → is_sure y slot ≡ true → (o ≢ Fault) × Succeeds NoCall old new

-- The next event of the call that k counts was played on the notes `found`. In a set of one pass nothing was published that the
-- pass hasn't seen, and nothing changed since the life began but by it.
pub record Advanced (b : BoardId) (was is : List Note) (k : Calling) (t : Turn) (before after : Part) : Type 0 where
  pub event : Event
  pub found : List Note
  pub on : found ≡ found_for event was
  pub turn : IsTurn found before k event
  pub holds : HoldNotes b.opened found is (note_by before.number (Played event t.outcome) t.published.value) before after
  pub turned : Turned b.opened found before k.command k.progress event t.outcome t.published.value
  pub alone : b.sizes.passes ≡ 1 → trace_of b.opened found ≡ before.known
  pub own : b.sizes.passes ≡ 1 → OnlyOwn before.number b.opened (trace_of b.opened found)

-- A hold goes on with the call that k counts, and puts its reply on the history where it is about to answer.
pub record WentOn (b : BoardId) (was is : List Note) (k : Calling) (t : Turn) (before after : Part) : Type 0 where
  pub advanced : Advanced b was is k t before after
  pub shows : Shows (shape_of_sizes b.sizes) was is (mark_of_turn (last_call_number before.number was) (reply_at k.progress))

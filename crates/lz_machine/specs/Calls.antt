-- The fixed order of one command's events.
use Rattle.std.specs.Prelude.{ℕ, ◌+◌, ◌-◌, Bool, true, false, ◌==◌, nat_lt, if◌then◌else◌, List, [], ◌∷◌, length, slice_index_or, Option, Some, None}
use Rattle.lz_slot.specs.{declared.{command.Command.{Command, TheVariants.{Add, Remove, Has}}, format.Format.{Format}}, Sets.{key_of}}
use Rattle.lz_list.specs.declared.{place.Place.{Place}, word.Word.TheVariants.{Halt as halt_word, Pin as pin_word}, walk.Look.{Look, TheVariants.{AtHead}}}
use Rattle.lz_list.specs.{declared.walk.Met.{Met, TheVariants.{Absent, Unmarked, Marked}}, Words.{Words, get}, Walks.{Hopped, More, End, wants, hopped}}
use Rattle.lz_flush.specs.{declared.need.Need.{Need, TheVariants.{Now, Sync as needs_sync}}, Settling.{may_answer}}
use Rattle.lz_machine.specs.declared.event.Event.{Event, TheVariants.{Pin, Hop, Reserve, WriteKey, Claim, Check, WriteOpen, Link, WriteClose, Mark, Release}}
use Rattle.lz_machine.specs.declared.event.{Event.TheVariants.{Sync, Settle, Unlink, Retire, SeePin, Answer, Halt}, Outcome.{Outcome}}
use Rattle.lz_machine.specs.declared.event.{Outcome.TheVariants.{Value, Slot, NoSlot, Taken, True, False, Early, Worn, OldFile, Fault, Dead}, Reply.{Reply}}
use Rattle.lz_machine.specs.declared.event.Reply.TheVariants.{Yes, No, Full, Worn as SaysWorn, OldFile as SaysOldFile, Halted, Device}
use Rattle.lz_machine.specs.declared.caller.Sequence.{Sequence, TheVariants.{Pinning, Resting, Writing, Adding, Removing, Releasing, Halting}}
use Rattle.lz_machine.specs.declared.caller.Progress.{Progress, TheVariants.{Playing, LoadsHalt, Walking, Reserving, SeeingPins, Claiming, Checking, Answering}}
use Rattle.lz_machine.specs.{Yards.{Shape}, Table.{is_old}}

-- the events of a sequence, as the rule lists them
abbrev pub events_of : Command → Sequence → List Event
events_of c Pinning = Pin ∷ []
events_of c (Resting s reply) = Sync s ∷ Settle s ∷ []
events_of c (Writing s) = WriteKey (key_of c) ∷ Sync s ∷ []
events_of c (Adding s) = WriteOpen ∷ Link ∷ Release ∷ Sync s ∷ Settle s ∷ []
events_of c (Removing s) = WriteClose ∷ Mark ∷ Sync s ∷ Settle s ∷ Unlink ∷ Release ∷ Retire ∷ []
events_of c (Releasing aim) = Release ∷ []
events_of c (Halting reply) = Halt ∷ []

-- what follows a sequence
abbrev pub goes_on : Sequence → Progress
goes_on Pinning = LoadsHalt
goes_on (Resting s reply) = Answering reply
goes_on (Writing s) = Walking (Some s) AtHead
goes_on (Adding s) = Answering Yes
goes_on (Removing s) = Answering Yes
goes_on (Releasing aim) = Walking aim AtHead
goes_on (Halting reply) = Answering reply

-- the event of a sequence with this index
abbrev pub event_of : Command → Sequence → ℕ → Event
event_of c sequence i = slice_index_or (events_of c sequence) i Check

-- the event after it, or what follows the sequence
abbrev pub after_event : Command → Sequence → ℕ → Progress
after_event c sequence i = if nat_lt (i + 1) (length (events_of c sequence)) then Playing sequence (i + 1) else goes_on sequence

-- after its Invoke a call pins, and its first walk begins with the halt word
abbrev pub first_progress : Progress
first_progress = Playing Pinning 0

-- where a call of this command begins on a file of this format
abbrev pub begun : Format → Command → Progress
begun format c = if is_old format c then Answering SaysOldFile else first_progress

-- the next event of a call of this command
abbrev pub event_at : Shape → Command → Progress → Event
event_at shape c (Playing sequence i) = event_of c sequence i
event_at shape c LoadsHalt = Hop halt_word
event_at shape c (Walking aim look) = Hop (wants shape.buckets (key_of c) look)
event_at shape c (Reserving again) = Reserve
event_at shape c (SeeingPins p) = SeePin p 0
event_at shape c (Claiming aim pred curr) = Claim pred curr
event_at shape c (Checking aim curr) = Check
event_at shape c (Answering reply) = Answer

-- resting on a node: where its last change isn't settled, a sync comes first
abbrev pub rests : ℕ → Need → Reply → Progress
rests s Now reply = Answering reply
rests s needs_sync reply = Playing (Resting s reply) 0

-- What a call does where its walk has ended. The first slot is the one in which it has written its key, if it has one.
abbrev pub walked : Command → Option ℕ → Place → Option ℕ → Met → Progress
walked (Has k) aim pred curr Absent = Answering No
walked (Has k) aim pred curr (Unmarked s flags) = rests s (may_answer flags) Yes
walked (Has k) aim pred curr (Marked s flags) = rests s (may_answer flags) No
walked (Add k) aim pred curr (Unmarked s flags) = rests s (may_answer flags) No
walked (Add k) None pred curr _ = Reserving false
walked (Add k) (Some slot) pred curr _ = Claiming (Some slot) pred curr
walked (Remove k) aim pred curr Absent = Answering No
walked (Remove k) aim pred curr (Marked s flags) = rests s (may_answer flags) No
walked (Remove k) aim pred curr (Unmarked s flags) = Claiming aim pred curr

abbrev pub hops_on : Command → Option ℕ → Hopped → Progress
hops_on c aim (More look) = Walking aim look
hops_on c aim (End pred curr met) = walked c aim pred curr met

-- What a call does under its locks, once they were checked.
abbrev pub changes : Command → Option ℕ → Option ℕ → Progress
changes (Add k) (Some s) curr = Playing (Adding s) 0
changes (Remove k) aim (Some s) = Playing (Removing s) 0
changes _ aim _ = Playing (Releasing aim) 0

abbrev pub halts : Reply → Progress
halts reply = Playing (Halting reply) 0

abbrev pub halt_loaded : ℕ → Progress
halt_loaded value = if value == 1 then Answering Halted else Walking None AtHead

-- What follows an outcome that is no fault, where a call has come so far. At Early the sync that stands before the settling is
-- played again.
abbrev pub after_playing : Command → Sequence → ℕ → Outcome → Progress
after_playing c sequence i Early = Playing sequence (i - 1)
after_playing c sequence i _ = after_event c sequence i

abbrev pub after_halt : Outcome → Progress
after_halt (Value value) = halt_loaded value
after_halt _ = LoadsHalt

abbrev pub after_hop : Shape → Command → Option ℕ → Look → Outcome → Progress
after_hop shape c aim look (Value value) = hops_on c aim (hopped shape.buckets (key_of c) look value)
after_hop shape c aim look _ = Walking aim look

abbrev pub after_reserve : Bool → Outcome → Progress
after_reserve again (Slot s) = Playing (Writing s) 0
after_reserve false (NoSlot counts) = SeeingPins 1
after_reserve true (NoSlot counts) = Answering (Full counts)
after_reserve again _ = Reserving again

abbrev pub after_see_pin : Shape → ℕ → Progress
after_see_pin shape p = if nat_lt p shape.passes then SeeingPins (p + 1) else Reserving true

abbrev pub after_claim : Option ℕ → Place → Option ℕ → Outcome → Progress
after_claim aim pred curr Taken = Checking aim curr
after_claim aim pred curr _ = Claiming aim pred curr

abbrev pub after_check : Command → Option ℕ → Option ℕ → Outcome → Progress
after_check c aim curr True = changes c aim curr
after_check c aim curr False = Playing (Releasing aim) 0
after_check c aim curr _ = Checking aim curr

abbrev pub follows : Shape → Command → Progress → Outcome → Progress
follows shape c (Playing sequence i) outcome = after_playing c sequence i outcome
follows shape c LoadsHalt outcome = after_halt outcome
follows shape c (Walking aim look) outcome = after_hop shape c aim look outcome
follows shape c (Reserving again) outcome = after_reserve again outcome
follows shape c (SeeingPins p) outcome = after_see_pin shape p
follows shape c (Claiming aim pred curr) outcome = after_claim aim pred curr outcome
follows shape c (Checking aim curr) outcome = after_check c aim curr outcome
follows shape c (Answering reply) outcome = Answering reply

-- where a call of this command has come to after its next event had this outcome
abbrev pub progress_after : Shape → Command → Progress → Outcome → Progress
progress_after shape c at Fault = halts Device
progress_after shape c at Dead = halts Halted
progress_after shape c at Worn = Answering SaysWorn
progress_after shape c at OldFile = Answering SaysOldFile
progress_after shape c at outcome = follows shape c at outcome

-- a pin word that is looked at is loaded by whoever plays the event
abbrev pub loaded : Words → Event → Event
loaded words (SeePin p value) = SeePin p (get words (pin_word p))
loaded words e = e

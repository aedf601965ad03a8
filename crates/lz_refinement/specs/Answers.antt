-- What each answer promises a pass: P is what it had seen before its call, Q what it has seen after. Traces and steps stand
-- newest first. A pass's own changes are the linkings, markings and unlinkings made for it.
use Rattle.std.specs.Prelude.{◌≡◌, ◌⊎◌, ℕ, suc, ◌+◌, true, false, List, [], ◌∷◌, ◌++◌, length, Option, Some, None}
use Rattle.lz_slot.specs.{declared.{command.Command.{Command, TheVariants.{Add, Remove, Has}}, format.Format.{Format}}, Sets.{HasMembers}}
use Rattle.lz_allot.specs.declared.counts.Counts.{Counts}
use Rattle.lz_list.specs.declared.publishing.Publishing.TheVariants.{Linked as linked, Marked as marked, Unlinked as unlinked}
use Rattle.lz_list.specs.Traces.{Trace, Begins, Lawful, member, linking_in, is_settled, is_removed, halt_word}
use Rattle.lz_machine.specs.declared.event.{Event.TheVariants.{Reserve, Answer}, Outcome.{Outcome, TheVariants.{Done, NoSlot}}, Reply.{Reply}}
use Rattle.lz_machine.specs.declared.{event.Reply.TheVariants.{Yes, No, Full, Worn, OldFile, Halted, Device}, caller.Progress.TheVariants.{Answering}}
use Rattle.lz_machine.specs.{Halts.{IsLateReply}, Yards.{Shape}, Table.{last_pin, is_old}}
use Rattle.lz_board.specs.declared.view.{What.{What, TheVariants.{Called, Played, Found}}, Note.{Note}, Part.{Part}}
use Rattle.lz_board.specs.{Notes.{note_by, own, place, shape_of_sizes, stamped}, Glances.{Changes, Between}, Plays.{knowing}, Ways.{Rests}}
use Rattle.lz_refinement.specs.OnePass.{OnlyOwn}

-- its own adding of k in slot s, which was settled since
pub record Added (p k : ℕ) (P Q : Trace) : Type 0 where
  pub slot : ℕ
  pub changes : Changes p P Q (linked k slot p ∷ [])
  pub earlier : Trace
  pub from : Begins P earlier
  pub upto : Begins (linked k slot p ∷ earlier) Q
  pub settled : is_settled (suc (length earlier)) Q ≡ true

-- its own removing of k from slot s: marked, settled as removed, and then unlinked
pub record Removed (p k : ℕ) (P Q : Trace) : Type 0 where
  pub slot : ℕ
  pub changes : Changes p P Q (unlinked k slot p ∷ marked k slot p ∷ [])
  pub earlier : Trace
  pub from : Begins P earlier
  pub upto : Begins (marked k slot p ∷ earlier) Q
  pub settled : is_removed (linking_in slot earlier) Q ≡ true

-- the last slot that these steps asked for
abbrev pub reserved_by : What → Option Outcome → Option Outcome
reserved_by (Played Reserve o) rest = Some o
reserved_by w rest = rest

abbrev pub last_reserve : List Note → Option Outcome
last_reserve [] = None
last_reserve (n ∷ ns) = reserved_by n.what (last_reserve ns)

-- There was no free slot at its last Reserve, and its key was no member at some R. In a set of one pass all slots have members.
pub record WasFull (shape : Shape) (p k : ℕ) (counts : Counts) (new : List Note) (P Q : Trace) : Type 0 where
  pub reserve : last_reserve new ≡ Some (NoSlot counts)
  pub free : counts.free ≡ 0
  pub sum : counts.free + counts.taken + counts.limbo ≡ shape.slots
  pub then : Trace
  pub between : Between P then Q
  pub no_member : member k then ≡ false
  pub alone : shape.passes ≡ 1 → HasMembers (λ j. member j Q) shape.slots
  pub changes : Changes p P Q []

-- what a call that was cut off may have changed
abbrev pub MayHaveChanged : ℕ → Command → Trace → Type 0
MayHaveChanged p (Has k) own = own ≡ []
MayHaveChanged p (Add k) own = (own ≡ []) ⊎ ((s : ℕ) × (own ≡ linked k s p ∷ []))
MayHaveChanged p (Remove k) own = (own ≡ []) ⊎ ((s : ℕ) × ((own ≡ marked k s p ∷ []) ⊎ (own ≡ unlinked k s p ∷ marked k s p ∷ [])))

pub record WasCut (p : ℕ) (c : Command) (P Q : Trace) : Type 0 where
  pub halted : halt_word Q ≡ 1
  pub own : Trace
  pub changes : Changes p P Q own
  pub may : MayHaveChanged p c own

-- THE TABLE, for `add`, `remove` and `has`: what the reply promises of what the pass has seen, of its new steps and of its pin
-- word, on a file of this format.
abbrev pub Promises : Shape → ℕ → Format → Command → Reply → ℕ → List Note → Trace → Trace → Type 0
Promises shape p format (Has k) Yes pin new P Q = Rests k true P Q × Changes p P Q []
Promises shape p format (Has k) No pin new P Q = Rests k false P Q × Changes p P Q []
Promises shape p format (Add k) Yes pin new P Q = Added p k P Q
Promises shape p format (Add k) No pin new P Q = Rests k true P Q × Changes p P Q []
Promises shape p format (Remove k) Yes pin new P Q = Removed p k P Q
Promises shape p format (Remove k) No pin new P Q = Rests k false P Q × Changes p P Q []
Promises shape p format (Add k) (Full counts) pin new P Q = WasFull shape p k counts new P Q
Promises shape p format c (Full counts) pin new P Q = ⊥
Promises shape p format c Worn pin new P Q = (pin ≡ last_pin) × Changes p P Q []
Promises shape p format c OldFile pin new P Q = (is_old format c ≡ true) × Changes p P Q []
Promises shape p format c Halted pin new P Q = WasCut p c P Q
Promises shape p format c Device pin new P Q = WasCut p c P Q

-- steps that neither begin a call nor end one
abbrev pub IsWithin : What → Type 0
IsWithin (Called c format) = ⊥
IsWithin (Played Answer o) = ⊥
IsWithin (Played e o) = Unit {0}
IsWithin (Found q v) = ⊥

abbrev pub AreWithin : List Note → Type 0
AreWithin [] = Unit {0}
AreWithin (n ∷ ns) = IsWithin n.what × AreWithin ns

-- The steps are one call of this command, from its beginning to its Answer, which was noted at that moment of the device, and its
-- reply is this one.
pub record IsOneCall (shape : Shape) (p : ℕ) (format : Format) (c : Command) (reply : Reply) (new : List Note) : Type 0 where
  pub moment : ℕ
  pub within : List Note
  pub steps : new ≡ stamped moment (note_by p (Played Answer Done) None) ∷ (within ++ note_by p (Called c format) None ∷ [])
  pub only : AreWithin within
  pub answers : place shape (within ++ note_by p (Called c format) None ∷ []) ≡ Some (c, Answering reply)

-- A pass's part before a call and after it, on a file of this format.
pub record Answers (format : Format) (c : Command) (reply : Reply) (before after : Part) : Type 0 where
  pub number : after.number ≡ before.number
  pub new : List Note
  pub steps : after.steps ≡ new ++ before.steps
  pub one_call : IsOneCall (shape_of_sizes before.sizes) before.number format c reply new
  pub promises : Promises (shape_of_sizes before.sizes) before.number format c reply after.pin new before.known after.known
  -- what it has seen was lawful; in a set of one pass nothing was changed but by its calls
  pub lawful : Lawful before.sizes.buckets before.sizes.slots after.known
  pub alone : before.sizes.passes ≡ 1 → OnlyOwn before.number before.known after.known
  -- one that begins after the halt changes nothing
  pub late : halt_word before.known ≡ 1 → IsLateReply reply

-- After two passes have met, each has seen all that either had seen, what one has seen begins what the other has, and all else
-- that belongs to each is as it was.
pub record Met (one other one' other' : Part) : Type 0 where
  pub one_one : Begins one.known one'.known
  pub one_other : Begins one.known other'.known
  pub other_one : Begins other.known one'.known
  pub other_other : Begins other.known other'.known
  pub alike : Begins one'.known other'.known ⊎ Begins other'.known one'.known
  pub one_kept : one' ≡ knowing one'.known one
  pub other_kept : other' ≡ knowing other'.known other

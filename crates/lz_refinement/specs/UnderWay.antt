-- What a thread knows of its call between two holds, and what it has when its call has ended.
use Rattle.std.specs.Prelude.{◌≡◌, ℕ, zero, suc, ◌+◌, ◌%◌, true, List, [], ◌∷◌, ◌++◌, Some, None}
use Rattle.lz_slot.specs.{declared.{command.Command.{Command, TheVariants.{Add, Remove}}, format.Format.{Format}}, Sets.{HasMembers}}
use Rattle.lz_allot.specs.declared.counts.Counts.{Counts}
use Rattle.lz_list.specs.declared.publishing.Publishing.TheVariants.{Linked as linked, Marked as marked, Unlinked as unlinked}
use Rattle.lz_list.specs.Traces.{Trace, Begins, halt_word, member}
use Rattle.lz_machine.specs.declared.caller.{Progress.{Progress, TheVariants.{Playing, Answering}}, Sequence.TheVariants.{Adding, Removing, Halting}}
use Rattle.lz_machine.specs.declared.event.{Outcome.TheVariants.{NoSlot}, Reply.TheVariants.{Yes, Full, OldFile, Halted, Device}}
use Rattle.lz_machine.specs.{CallersSound.{is_before_pin, side_of}, Halts.{IsLate}, Table.{is_old}, Yards.{IsInside}}
use Rattle.lz_board.specs.{declared.view.{What.TheVariants.{Called}, Note.{Note}, Part.{Part}}, Notes.{Extends, note_by}, Glances.{Changes}, Seats.{BoardId}}
use Rattle.lz_refinement.specs.{Answers.{AreWithin, MayHaveChanged, last_reserve}, Holds.{HasCall}}

-- its own adding of key k in some slot
abbrev pub HasLinked : ℕ → ℕ → Trace → Type 0
HasLinked p k own = (s : ℕ) × (own ≡ linked k s p ∷ [])

-- its own removing of key k from some slot
abbrev pub HasUnlinked : ℕ → ℕ → Trace → Type 0
HasUnlinked p k own = (s : ℕ) × (own ≡ unlinked k s p ∷ marked k s p ∷ [])

-- before WriteOpen and Link, and after them
abbrev pub OwnAdding : ℕ → ℕ → ℕ → ℕ → Trace → Type 0
OwnAdding p k s zero own = own ≡ []
OwnAdding p k s (suc zero) own = own ≡ []
OwnAdding p k s _ own = own ≡ linked k s p ∷ []

-- before WriteClose and Mark; before Sync, Settle and Unlink; and after them
abbrev pub OwnRemoving : ℕ → ℕ → ℕ → ℕ → Trace → Type 0
OwnRemoving p k s zero own = own ≡ []
OwnRemoving p k s (suc zero) own = own ≡ []
OwnRemoving p k s (suc (suc zero)) own = own ≡ marked k s p ∷ []
OwnRemoving p k s (suc (suc (suc zero))) own = own ≡ marked k s p ∷ []
OwnRemoving p k s (suc (suc (suc (suc zero)))) own = own ≡ marked k s p ∷ []
OwnRemoving p k s _ own = own ≡ unlinked k s p ∷ marked k s p ∷ []

-- What was published for pass p since its call was made, by how far the call has come. Traces stand newest first.
abbrev pub OwnAt : ℕ → Command → Progress → Trace → Type 0
OwnAt p (Add k) (Playing (Adding s) i) own = OwnAdding p k s i own
OwnAt p (Remove k) (Playing (Removing s) i) own = OwnRemoving p k s i own
OwnAt p c (Playing (Halting reply) i) own = MayHaveChanged p c own
OwnAt p (Add k) (Answering Yes) own = HasLinked p k own
OwnAt p (Remove k) (Answering Yes) own = HasUnlinked p k own
OwnAt p c (Answering Halted) own = MayHaveChanged p c own
OwnAt p c (Answering Device) own = MayHaveChanged p c own
OwnAt p c at own = own ≡ []

-- The last Reserve gave no slot; none was free, the counts are those of all slots, and in a set of one pass all had members.
pub record FoundFull (slots passes : ℕ) (counts : Counts) (within : List Note) (known : Trace) : Type 0 where
  pub reserve : last_reserve within ≡ Some (NoSlot counts)
  pub free : counts.free ≡ 0
  pub sum : counts.free + counts.taken + counts.limbo ≡ slots
  pub alone : passes ≡ 1 → HasMembers (λ j. member j known) slots

-- A call of command c, made by the pass that had this part before, has come to `at`; the pass's part is now h.
pub record UnderWay (b : BoardId) (c : Command) (format : Format) (before : Part) (at : Progress) (h : Part) : Type 0 where
  pub sizes : h.sizes ≡ b.sizes
  pub number : h.number ≡ before.number
  -- its noted steps since the call was made
  pub within : List Note
  pub steps : h.steps ≡ within ++ note_by h.number (Called c format) None ∷ before.steps
  pub only : AreWithin within
  pub call : HasCall h record { command = c; buckets = b.sizes.buckets; passes = b.sizes.passes; progress = at }
  pub side : h.pin % 2 ≡ side_of (is_before_pin at)
  pub own : Trace
  pub changes : Changes h.number before.known h.known own
  pub is_own : OwnAt h.number c at own
  -- before the call it had seen what the life began with; it went in since
  pub opened : Extends before.known b.opened
  pub since : IsInside h.pin → Begins before.known h.begun
  pub old : at ≡ Answering OldFile → is_old format c ≡ true
  pub late : halt_word before.known ≡ 1 → IsLate at
  pub full : (counts : Counts) → at ≡ Answering (Full counts) → FoundFull b.sizes.slots b.sizes.passes counts within h.known

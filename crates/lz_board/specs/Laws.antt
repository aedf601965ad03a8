-- What the rule says between any two steps on a board, in the words of its pen and its passes.
use Rattle.std.specs.Prelude.{◌≡◌, ℕ, ◌∷◌, List, true, slice_index}
use mathlib.Core.Option.{some}
use lib.ListN.{get_elem?}
use Rattle.atomic_table.specs.Table.{State}
use Rattle.lz_list.specs.declared.{word.Word.{Word, TheVariants.{Pin as PinOf}}, publishing.Publishing.{Publishing}}
use Rattle.lz_list.specs.declared.publishing.Publishing.TheVariants.{Unlinked as unlinked, KeyPrepared as key_prepared, LinkPrepared as link_prepared}
use Rattle.lz_list.specs.{declared.layout.Sizes.{Sizes}, Traces.{Trace, Begins, Lawful, SettledYes, word_after}, Addresses.{index}}
use Rattle.lz_board.specs.{declared.view.{Note.{Note}, Part.{Part}, View.{View}, Opening.{Opening}}, Notes.{trace_of, steps_of, Since, IsShared}, Kept.{IsPart}}
use Rattle.lz_board.specs.{Opened.{opened_by}, Handles.{holds_of}, Glances.{Between}, Listings.{IsDurableIn}}
use Rattle.lz_machine.specs.Yards.{IsInside}

-- a seat has this view, where the board is in state s
abbrev pub IsView : State Note View → View → Type 0
IsView s v = (i : ℕ) × (get_elem? s.views i ≡ some v)

-- the notes are the pen's, where a seat is the pen's
abbrev pub ArePens : State Note View → List Note → Type 0
ArePens s ns = (v : View) → IsView s v → v.pen ≡ true → v.notes ≡ ns

-- h is what a pass knows, at its own seat or at the one that it has joined
abbrev pub IsPass : State Note View → Part → Type 0
IsPass s h = (v : View) × IsView s v × IsPart v.held h

-- each head, link, key and halt word is the one after the trace
abbrev pub AreWordsAfter : Sizes → Trace → List ℕ → Type 0
AreWordsAfter z P words = (w : Word) → IsShared z w → slice_index words (index z w) ≡ word_after z.buckets P w

-- The words are those after the trace of the pen's notes, which is lawful.
pub record IsPublished (z : Sizes) (opened : Trace) (s : State Note View) (ns : List Note) : Type 0 where
  pub pens : ArePens s ns
  pub lawful : Lawful z.buckets z.slots (trace_of opened ns)
  pub words : AreWordsAfter z (trace_of opened ns) s.words

-- What the pass has seen is a beginning of the notes' trace, after which nothing was published for it; its steps are the notes'
-- of it, and its pin word is its own.
pub record SeesBeginning (z : Sizes) (opened : Trace) (ns : List Note) (words : List ℕ) (h : Part) : Type 0 where
  pub seen : Since h.number (trace_of opened ns) h.known
  pub begun : Begins h.begun (trace_of opened ns)
  pub steps : steps_of h.number ns ≡ h.steps
  pub pin : slice_index words (index z (PinOf h.number)) ≡ h.pin

-- slot s is prepared for another node
abbrev pub Prepares : ℕ → Publishing → Type 0
Prepares s (key_prepared t v) = t ≡ s
Prepares s (link_prepared t v) = t ≡ s
Prepares s _ = ⊥

-- A slot isn't prepared again after an unlinking from it that came since the trace P0: U is the trace at the unlinking,
-- R that at the preparing.
abbrev pub LeavesFirst : Trace → Trace → Type 0
LeavesFirst P0 P =
    (k s p : ℕ) (e : Publishing) (U R : Trace)
    → Begins P0 U → Begins (unlinked k s p ∷ U) R → Begins (e ∷ R) P
    → Prepares s e → ⊥

-- between any two steps the words are those after the pen's trace, which is lawful
abbrev pub WordsFollowTheTrace : Type 0
WordsFollowTheTrace = (o : Opening) (s : State Note View) → holds_of o s → (ns : List Note) × IsPublished o.sizes (opened_by o.words.value) s ns

-- and each pass's view is a beginning of it with its own pin word
abbrev pub PassesSeeBeginnings : Type 0
PassesSeeBeginnings =
    (o : Opening) (s : State Note View)
    → holds_of o s
    → (ns : List Note) × IsPublished o.sizes (opened_by o.words.value) s ns × ((h : Part) → IsPass s h → SeesBeginning o.sizes (opened_by o.words.value) ns s.words h)

-- and a slot isn't prepared again while a pass is inside since before its last unlinking
abbrev pub SlotsAreLeftFirst : Type 0
SlotsAreLeftFirst =
    (o : Opening) (s : State Note View)
    → holds_of o s
    → (ns : List Note)
    × IsPublished o.sizes (opened_by o.words.value) s ns × ((h : Part) → IsPass s h → IsInside h.pin → LeavesFirst h.begun (trace_of (opened_by o.words.value) ns))

-- a key that is settled as a member from P to Q is one in the same slot throughout
abbrev pub MembersKeepTheirSlot : Type 0
MembersKeepTheirSlot =
    (buckets slots k : ℕ) (P Q : Trace)
    → Lawful buckets slots Q
    → Begins P Q
    → ((R : Trace) → Between P R Q → SettledYes R R k)
    → (s : ℕ) × ((R : Trace) → Between P R Q → IsDurableIn s k R)

-- The rule of the board: what its words and the views of all seats have in common between any two steps.
use Rattle.std.specs.Prelude.{◌≡◌, ◌⊎◌, ℕ, ◌≤◌, ◌==◌, Bool, true, false, if◌then◌else◌, List, [], ◌∷◌, length, slice_index, is_some}
use mathlib.Core.Option.{some}
use lib.ListN.{get_elem?}
use Rattle.atomic_table.specs.Table.{State}
use Rattle.lz_list.specs.{declared.{word.Word.{Word, TheVariants.{Pin as PinOf}}, layout.Sizes.{Sizes}}, Traces.{Trace, Lawful, word_after}, Pinned.{IsQuiet}}
use Rattle.lz_list.specs.Addresses.{index, words_count}
use Rattle.lz_machine.specs.{declared.event.{Event.{Event, TheVariants.{Pin, Answer}}, Outcome.{Outcome, TheVariants.{Done}}}, Table.{last_pin}}
use Rattle.lz_machine.specs.Yards.{IsInside}
use Rattle.lz_board.specs.declared.view.{What.{What, TheVariants.{Called, Played, Found}}, Note.{Note}, Part.{Part}, View.{View}}
use Rattle.lz_board.specs.Notes.{trace_of, steps_of, Extends, Since, Quiet, InOrder, IsShared, AllShown, place, shape_of_sizes, pin_after, turned_at}

-- by these steps of a pass it has a call open: they lead to a place of one
abbrev pub is_calling : Sizes → List Note → Bool
is_calling z steps = is_some (place (shape_of_sizes z) steps)

-- an event with this outcome shows the pin word of the pass that played it
abbrev pub shows_played : Event → Outcome → Bool
shows_played Pin Done = true
shows_played Answer Done = true
shows_played e o = false

-- the note of pass `by` shows the pin word of pass q
abbrev pub shows : ℕ → ℕ → What → Bool
shows q by (Called c format) = false
shows q by (Played e o) = if by == q then shows_played e o else false
shows q by (Found r v) = r == q

-- Since a pin word was shown it is as it was, or it has been stored when the trace was at least so long.
abbrev pub FoundSince : Trace → List Note → Part → Type 0
FoundSince opened [] h = Unit {0}
FoundSince opened (n ∷ ns) h =
    (shows h.number n.by n.what ≡ true → (h.pin ≡ pin_after h.number (n ∷ ns)) ⊎ (length (trace_of opened ns) ≤ length h.begun))
    × FoundSince opened ns h

-- What the rule says of a pass's part. Its steps are those of the notes, and then its loads since.
pub record Knows (z : Sizes) (opened : Trace) (ns : List Note) (h : Part) : Type 0 where
  pub sized : h.sizes ≡ z
  pub numbered : (1 ≤ h.number) × (h.number ≤ z.passes)
  -- what it has seen is a beginning of the trace, and nothing was published for it since
  pub since : Since h.number (trace_of opened ns) h.known
  pub noted : steps_of h.number ns ≡ h.steps
  -- its loads come after all its noted steps, and each found its word as it was then
  pub quiet : Quiet opened h.number h.base ns
  pub least : length opened ≤ h.base
  pub order : InOrder h.base h.loads (length h.known)
  pub shown : AllShown z (trace_of opened ns) h.loads
  pub found : FoundSince opened ns h
  pub began : Extends h.begun opened
  pub from : Extends (trace_of opened ns) h.begun
  -- since its last pin no slot that stood on a chain was prepared again
  pub kept : IsInside h.pin → IsQuiet z.buckets h.begun (trace_of opened ns)
  -- a call that is inside went in with a note
  pub turned : IsInside h.pin → is_calling z h.steps ≡ true → h.begun ≡ turned_at h.number opened ns

-- A part at seat i belongs there, its pin word is the board's, and what it knows is so.
pub record PartFits (z : Sizes) (opened : Trace) (ns : List Note) (owner : ℕ → ℕ) (words : List ℕ) (i : ℕ) (h : Part) : Type 0 where
  pub owned : owner h.number ≡ i
  pub pinned : slice_index words (index z (PinOf h.number)) ≡ h.pin
  pub knows : Knows z opened ns h

-- h is one of these parts
abbrev pub IsPart : List Part → Part → Type 0
IsPart held h = (n : ℕ) × (get_elem? held n ≡ some h)

-- no two of these parts are of one pass
abbrev pub Apart : List Part → Type 0
Apart [] = Unit {0}
Apart (h ∷ hs) = ((g : Part) → IsPart hs g → ¬ (g.number ≡ h.number)) × Apart hs

-- The view at seat i: the pen's has all notes, and each part that it holds fits.
pub record ViewFits (z : Sizes) (opened : Trace) (ns : List Note) (pen : ℕ) (owner : ℕ → ℕ) (words : List ℕ) (i : ℕ) (v : View) : Type 0 where
  pub whole : v.pen ≡ true → (i ≡ pen) × (v.sizes ≡ z) × (v.opened ≡ opened) × (v.notes ≡ ns)
  pub parts : (h : Part) → IsPart v.held h → PartFits z opened ns owner words i h
  pub apart : Apart v.held

-- What the notes have of a pin word: a look that goes on isn't noted yet, and a call changes its pin word with the note.
pub record PinTold (z : Sizes) (ns : List Note) (q pin : ℕ) : Type 0 where
  pub past : pin_after q ns ≤ pin
  pub worn : pin ≤ last_pin
  pub calling : is_calling z (steps_of q ns) ≡ true → pin_after q ns ≡ pin

-- The rule: the trace of the pen's notes is lawful, the words are those after it, and each seat's view fits.
pub record Keeps (z : Sizes) (opened : Trace) (s : State Note View) : Type 0 where
  pub notes : List Note
  pub pen : ℕ
  pub owner : ℕ → ℕ
  pub lawful : Lawful z.buckets z.slots (trace_of opened notes)
  pub long : length s.words ≡ words_count z
  pub words : (w : Word) → IsShared z w → slice_index s.words (index z w) ≡ word_after z.buckets (trace_of opened notes) w
  pub pins : (q : ℕ) → 1 ≤ q → q ≤ z.passes → PinTold z notes q (slice_index s.words (index z (PinOf q)))
  pub views : (i : ℕ) (v : View) → get_elem? s.views i ≡ some v → ViewFits z opened notes pen owner s.words i v

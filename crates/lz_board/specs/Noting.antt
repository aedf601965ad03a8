-- What the pen may note and store: the conditions of its calls.
use Rattle.std.specs.Prelude.{◌≡◌, ◌≢◌, ◌⊎◌, ℕ, suc, ◌%◌, ◌<◌, ◌≤◌, ◌==◌, true, if◌then◌else◌, List, [], ◌∷◌, ◌++◌, length, Option, Some, None}
use Rattle.lz_list.specs.declared.{word.Word.{Word}, publishing.Publishing.{Publishing}}
use Rattle.lz_list.specs.declared.{publishing.Publishing.TheVariants.{KeyPrepared as key_prepared, LinkPrepared as link_prepared}, layout.Sizes.{Sizes}}
use Rattle.lz_list.specs.Traces.{Trace, Lawful, word_after}
use Rattle.lz_machine.specs.{Table.{last_pin}, Limbo.{IsAway}, Yards.{IsInside}}
use Rattle.lz_board.specs.declared.view.{What.{What, TheVariants.{Called, Played, Found}}, Note.{Note}, Part.{Part}}
use Rattle.lz_board.specs.{Notes.{as_list, trace_of, own, IsShared, pin_after, pin_after_what}, Kept.{is_calling, shows}}

-- a note that shows the pin word of pass q, and the notes before it
pub record Sighting (opened : Trace) (ns : List Note) (q : ℕ) : Type 0 where
  pub note : Note
  pub rest : List Note
  pub within : (more : List Note) × (ns ≡ more ++ note ∷ rest)
  pub shown : shows q note.by note.what ≡ true

-- Pass q was seen since slot s stood on a chain last: outside, or inside and later with another pin word.
pub record HasLeft (z : Sizes) (opened : Trace) (ns : List Note) (q s : ℕ) : Type 0 where
  pub sight : Sighting opened ns q
  pub away : IsAway z.buckets (trace_of opened sight.rest) (trace_of opened ns) s
  pub left : (pin_after q (sight.note ∷ sight.rest) % 2 ≡ 0)
      ⊎ ((later : Sighting opened ns q) × (pin_after q (later.note ∷ later.rest) ≢ pin_after q (sight.note ∷ sight.rest)) × (length (trace_of opened sight.rest) ≤ length (trace_of opened later.rest)))

-- Slot s stood on no chain in this life, or each pass has left it since.
abbrev pub AllLeft : Sizes → Trace → List Note → ℕ → Type 0
AllLeft z opened ns s = IsAway z.buckets opened (trace_of opened ns) s ⊎ ((q : ℕ) → 1 ≤ q → q ≤ z.passes → HasLeft z opened ns q s)

-- a slot is prepared again only where each pass has left it
abbrev pub MayPrepare : Sizes → Trace → List Note → Option Publishing → Type 0
MayPrepare z opened ns (Some (key_prepared s v)) = AllLeft z opened ns s
MayPrepare z opened ns (Some (link_prepared s v)) = AllLeft z opened ns s
MayPrepare z opened ns _ = Unit {0}

-- Where the word w has the value `old` it becomes `new`, and that is just what is published.
pub record Writes (z : Sizes) (P : Trace) (w : Word) (old «new» : ℕ) (x : Option Publishing) : Type 0 where
  pub shared : IsShared z w
  pub word : (if word_after z.buckets P w == old then «new» else word_after z.buckets P w) ≡ word_after z.buckets (as_list x ++ P) w
  pub others : (v : Word) → IsShared z v → v ≢ w → word_after z.buckets (as_list x ++ P) v ≡ word_after z.buckets P v

-- a step of a pass, and no pin word that was found
abbrev pub IsStep : What → Type 0
IsStep (Called c format) = Unit {0}
IsStep (Played e o) = Unit {0}
IsStep (Found q v) = ⊥

-- The pass that has joined the pen may note this.
pub record MayNote (z : Sizes) (opened : Trace) (ns : List Note) (h : Part) (n : Note) : Type 0 where
  pub by : n.by ≡ h.number
  pub step : IsStep n.what
  -- the notes have the pass's pin word: no look of it is left out
  pub pin : pin_after h.number ns ≡ h.pin
  -- a pass that is inside without a call makes none
  pub inside : IsInside h.pin → is_calling z h.steps ≡ true
  -- the trace stays lawful
  pub lawful : Lawful z.buckets z.slots (as_list n.published ++ trace_of opened ns)
  -- what is published is made for no other pass
  pub made : (q : ℕ) → q ≢ h.number → own q (as_list n.published) ≡ []
  pub prepares : MayPrepare z opened ns n.published

-- the step leaves the pass's pin word as it is
abbrev pub KeepsPin : Part → Note → Type 0
KeepsPin h n = pin_after_what h.number h.number n.what h.pin ≡ h.pin

-- it counts the pin word up: the pass goes inside or outside
abbrev pub MovesPin : Part → Note → Type 0
MovesPin h n = (pin_after_what h.number h.number n.what h.pin ≡ suc h.pin) × (h.pin < last_pin) × (n.published ≡ None)

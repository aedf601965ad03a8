-- The invariant of the machine: what holds of each state that is reached, with its trace. Each field is a record of its own,
-- over those parts of the state that it speaks of, so that a step shows only what it touches.
use Rattle.std.specs.Prelude.{◌≡◌, ℕ, ◌<◌, ◌≤◌, true, false, List, [], ◌∷◌, length, slice_get, Option, Some}
use Rattle.lz_slot.specs.{Limits.{most_slots_of}, Rooms.{largest_of}, Sets.{Keys}, Bytes.{Holds, format_of}, Counted.{of_pass}}
use Rattle.lz_slot.specs.Histories.{History, Life, ChainTo, Fits, lives, IsBefore as IsAnsweredBefore}
use Rattle.lz_disk.specs.Images.{Medium, IsImage, IsSound as IsSoundDisk}
use Rattle.lz_vault.specs.{Stages.{Cell, Keeps, Suits}, Vaults.{Vaulted}}
use Rattle.lz_allot.specs.{declared.sight.Sight.{Sight, TheVariants.{Left}}, Uses.{Use, Free, Limbo, use_of}}
use Rattle.lz_list.specs.{declared.word.Word.TheVariants.{Head as head_at, Link as link_at, Key as key_at}, Words.{Words}}
use Rattle.lz_list.specs.Traces.{Trace, Lawful, node_next, linking, is_settled, halt_word, word_after, table, member}
use Rattle.lz_machine.specs.{declared.actor.Actor.{Actor}, Yards.{Shape, Yard, actor_in, pin_in, IsInside}, Table.{last_pin}}
use Rattle.lz_machine.specs.{Runs.{Caller, Service, State, Up, Down, Start, Point, caller_at, shape_of, start_keys}, Formats.{HasFormat}, Ledgers.{Row, HasRow}}
use Rattle.lz_machine.specs.{Kept.{upto}, Limbo.{IsAway, IsRightSight}, Lasts.{Lasts}, SlotsSound.{SlotsSound}, LocksSound.{LocksSound}, Notes.{Notes, entries}}
use Rattle.lz_machine.specs.{LedgerSound.{LedgerSound, TailsSound}, CallersSound.{CallersSound}}

-- The trace is lawful, and the words are those after it; pin words are no part of it.
pub record TraceSound (shape : Shape) (words : Words) (P : Trace) : Type 0 where
  pub lawful : Lawful shape.buckets shape.slots P
  pub some : 1 ≤ shape.buckets
  pub small : (s : ℕ) → node_next shape.buckets s P ≤ shape.slots
  pub heads : words.heads ≡ table shape.buckets (λ b. word_after shape.buckets P (head_at b))
  pub links : words.links ≡ table shape.slots (λ s. word_after shape.buckets P (link_at s))
  pub keys : words.keys ≡ table shape.slots (λ s. word_after shape.buckets P (key_at s))
  pub halt : words.halt ≡ halt_word P
  pub pins : length words.pins ≡ shape.passes

-- The vault keeps the disk: each image holds at each slot what its stage says.
pub record DiskSound (shape : Shape) (vault : Vaulted) (disk : Medium) : Type 0 where
  pub slots : (1 ≤ shape.slots) × (shape.slots ≤ most_slots_of vault.format)
  pub count : length vault.cells ≡ shape.slots
  pub keys : (s : ℕ) (cell : Cell) → slice_get vault.cells s ≡ Some cell → cell.key ≤ largest_of vault.format
  pub keeps : Keeps vault.format vault.cells vault.dead disk

-- What the allot has seen of a pass is right, and a pass that is inside is away from each slot that may be prepared.
pub record ReuseSound (shape : Shape) (pins : List ℕ) (uses : List Use) (actors : List Actor) (P : Trace) (begun : ℕ → Trace) : Type 0 where
  pub worn : (a : ℕ) → pin_in pins a ≤ last_pin
  pub sights : (s : ℕ) (seen : List Sight) → use_of uses s ≡ Limbo seen → length seen ≡ shape.passes
  pub seen : (a s : ℕ) (seen : List Sight) → use_of uses s ≡ Limbo seen → IsRightSight shape.buckets (pin_in pins a) (begun a) P s (of_pass seen a Left)
  pub free : (a s : ℕ) → use_of uses s ≡ Free → IsInside (pin_in pins a) → IsAway shape.buckets (begun a) P s
  pub reserved : (a b s : ℕ) → (actor_in actors b).slot ≡ Some s → IsInside (pin_in pins a) → IsAway shape.buckets (begun a) P s

-- All of it, for an open service: the life began with the first n publishings, M is its history, and so many calls were made.
pub record Sound (n calls : ℕ) (y : Yard) (open_calls : List (Option Caller)) (disk : Medium) (M : History) (P : Trace) (notes : Notes) : Type 0 where
  pub trace : TraceSound y.shape y.words P
  pub images : DiskSound y.shape y.vault disk
  pub slots : SlotsSound y.shape y.vault.cells y.vault.dead y.uses y.actors P
  pub locks : LocksSound y.shape y.locks y.actors P
  pub callers : CallersSound y.shape y.vault y.words.pins y.actors open_calls P notes
  pub reuse : ReuseSound y.shape y.words.pins y.uses y.actors P notes.begun
  pub ledger : LedgerSound n calls y.shape.passes open_calls P M notes
  pub tails : TailsSound y.shape y.vault.cells y.actors P open_calls (entries y.shape.passes open_calls notes) M

-- The life began with the first n publishings: they show the set that its open found, and each linking among them is a
-- member's, settled as added.
pub record HasBegun (n : ℕ) (found : Keys) (P : Trace) : Type 0 where
  pub members : (k : ℕ) → member k (upto n P) ≡ found k
  pub sure : (k : ℕ) → 0 < linking k (upto n P) → (member k (upto n P) ≡ true) × (is_settled (linking k (upto n P)) (upto n P) ≡ true)

-- A call that was made after another one's answer has pinned after it: the row of the other stands at that pin at the
-- latest, and a change before it.
pub record IsAfter (pins : List ℕ) (callers : List (Option Caller)) (rows : List Row) (M : History) (begun : ℕ → Trace) : Type 0 where
  pub each : (a : ℕ) (caller : Caller) (r : Row)
      → caller_at callers a ≡ Some caller → IsInside (pin_in pins a) → HasRow r rows → IsAnsweredBefore M r.number caller.number
      → (r.position ≤ length (begun a)) × (r.position ≡ length (begun a) → r.changes ≡ false)

pub record UpSound (n calls : ℕ) (service : Service) (disk : Medium) (life : Life) (P : Trace) (notes : Notes) : Type 0 where
  pub began : HasBegun n life.start P
  pub sound : Sound n calls service.yard service.callers disk life.history P notes
  -- a pass that is inside went in during this life
  pub since : (a : ℕ) → IsInside (pin_in service.yard.words.pins a) → n ≤ length (notes.begun a)
  pub after : IsAfter service.yard.words.pins service.callers (entries service.yard.shape.passes service.callers notes) life.history notes.begun

-- Without an open service: each image holds a set, what was settled is in it, and the life that ended has a list that
-- leads to it.
pub record HasList (slots : ℕ) (life : Life) (P : Trace) (t : List ℕ) : Type 0 where
  pub found : Keys
  pub calls : List ℕ
  pub holds : Holds t slots found
  pub fits : Fits life.start life.history calls found
  pub lasts : Lasts P life.history found

pub record DownSound (shape : Shape) (disk : Medium) (life : Life) (P : Trace) : Type 0 where
  pub sound : IsSoundDisk disk
  pub suits : (t : List ℕ) → IsImage disk t → Suits (format_of t) disk
  pub each : (t : List ℕ) → IsImage disk t → HasList shape.slots life P t

abbrev pub StateSound : Point → State → Life → Type 0
StateSound p (Up service disk) life = (n : ℕ) × (notes : Notes) × UpSound n p.calls service disk life p.trace notes
StateSound p (Down shape disk) life = DownSound shape disk life p.trace

-- the lives before the last are a chain to the set with which it began, and the file is of the format with which the run began
abbrev pub PointSound : Start → Point → List Life → Type 0
PointSound start p [] = ⊥
PointSound start p (life ∷ earlier) =
    (shape_of p.state ≡ start.shape) × ChainTo earlier life.start × StateSound p p.state life × HasFormat (format_of start.text) p.state

abbrev pub IsSound : Start → Point → Type 0
IsSound start p = PointSound start p (lives (start_keys start) p.marks)

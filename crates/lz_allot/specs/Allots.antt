-- What is kept of the slots: the kind of each, the queue of those in limbo, and a row for each pass.
use Rattle.lz_allot.specs.declared.kind.Kind.TheVariants as kind
use Rattle.std.specs.Prelude.{◌≡◌, ◌<◌, ◌≤◌, ◌%◌, ◌==◌, ℕ, nat_lt, Bool, true, false, if◌then◌else◌, List, length, map, fold, slice_index, slice_index_or}
use Rattle.std.specs.{Prelude.{slice_set}, List.{list_any, position_or_len, range_with_len}}
use Rattle.lz_slot.specs.Limits.{most_passes, most_slots}
use Rattle.lz_allot.specs.declared.{kind.Kind.{Kind}, row.Row.{Row}, sight.Sight.{Sight, TheVariants.{Unseen, Inside, Left}}, counts.Counts.{Counts}}
use Rattle.lz_allot.specs.{Rows.{first_row}, Uses.{Use, Free, Taken, Limbo, counts, use_of}}

-- The uses of the slots, and what is known of each pass.
pub record Allotted : Type 0 where
  pub uses : List Use
  pub rows : List Row

-- the uses of N slots of which some are taken from the first
abbrev pub first_uses : ℕ → List ℕ → List Use
first_uses n taken = map (λ s. if list_any (λ t. t == s) taken then Taken else Free) (range_with_len 0 n)

-- a slot is there and is taken
abbrev pub IsTakenAt : List Use → ℕ → Type 0
IsTakenAt uses s = (s < length uses) × (use_of uses s ≡ Taken)

-- the list in which each of these places has x
abbrev pub set_each : {X : Type 0} → List X → List ℕ → X → List X
set_each xs places x = fold (λ ys i. slice_set ys i x) xs places

-- what is known of a pass since the slot at place i of the queue was retired
abbrev pub sight_at : ℕ → Row → Sight
sight_at i row = if nat_lt i row.left then Left else if nat_lt i row.met then Inside row.last else Unseen

-- the sights of all passes
abbrev pub sights_at : ℕ → List Row → List Sight
sights_at i rows = map (sight_at i) rows

-- the place of a slot in the queue
abbrev pub place_of : List ℕ → ℕ → ℕ
place_of queue s = position_or_len (λ q. q == s) queue

-- the use of a slot of this kind
abbrev pub use_told : List ℕ → List Row → ℕ → Kind → Use
use_told queue rows s kind.Free = Free
use_told queue rows s kind.Taken = Taken
use_told queue rows s kind.Limbo = Limbo (sights_at (place_of queue s) rows)

-- the kind of a slot
abbrev pub kind_at : List Kind → ℕ → Kind
kind_at kinds s = slice_index_or kinds s kind.Taken

-- the uses of the slots
abbrev pub uses_told : List Kind → List ℕ → List Row → List Use
uses_told kinds queue rows = map (λ s. use_told queue rows s (kind_at kinds s)) (range_with_len 0 (length kinds))

-- whether a slot of this kind is free
abbrev pub is_free_kind : Kind → Bool
is_free_kind kind.Free = true
is_free_kind _ = false

-- The queue holds each slot in limbo once, and no other.
pub record IsQueue (kinds : List Kind) (queue : List ℕ) : Type 0 where
  pub inside : (i : ℕ) → i < length queue → slice_index queue i < length kinds
  pub queued : (i : ℕ) → i < length queue → kind_at kinds (slice_index queue i) ≡ kind.Limbo
  pub once : (i j : ℕ) → i < length queue → j < length queue → slice_index queue i ≡ slice_index queue j → i ≡ j
  pub found : (s : ℕ) → s < length kinds → kind_at kinds s ≡ kind.Limbo → (i : ℕ) × (i < length queue) × (slice_index queue i ≡ s)

-- A pass has left no more of the queue than it met. Where it has met one that it hasn't left, it was inside.
pub record IsRow (queued : ℕ) (row : Row) : Type 0 where
  pub left : row.left ≤ row.met
  pub met : row.met ≤ queued
  pub is_inside : row.left < row.met → row.last % 2 ≡ 1

-- What holds of them at any time.
pub record IsAllot (kinds : List Kind) (free : List Bool) (queue : List ℕ) (capacity : ℕ) (rows : List Row) (counted : Counts) : Type 0 where
  pub size : (1 ≤ length kinds) × (length kinds ≤ most_slots)
  pub passes : (1 ≤ length rows) × (length rows ≤ most_passes)
  pub room : length kinds ≤ capacity
  pub shows : free ≡ map is_free_kind kinds
  pub is_queue : IsQueue kinds queue
  pub each : (p : ℕ) → p < length rows → IsRow (length queue) (slice_index_or rows p first_row)
  pub sum : counted ≡ counts (uses_told kinds queue rows)

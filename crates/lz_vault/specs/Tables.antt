-- The slots of an open file as a vault keeps them: what the next sync covers, and how many are open.
use Rattle.std.specs.{Prelude.{◌≡◌, ◌⊎◌, ℕ, ◌≤◌, ◌&&◌, Bool, not, true, false, List, length, slice_get, Some}, List.{count_by}}
use Rattle.lz_slot.specs.Limits.{most_slots}
use Rattle.lz_vault.specs.{Opens.{open_count}, Stages.{Cell, IsAt, cell_synced, is_covered}, declared.vault.Stage.{Stage, TheVariants.{Opening}}}

-- the next sync covers the slot's last write
abbrev pub is_uncovered : Cell → Bool
is_uncovered cell = not (is_covered cell.stage)

-- These are the slots whose last write isn't durable. They are as many as there are, so each is named once.
pub record AreUnsynced (cells : List Cell) (slots : List ℕ) : Type 0 where
  pub each : (i s : ℕ) → slice_get slots i ≡ Some s → IsAt cells s (λ cell. is_covered cell.stage ≡ false)
  pub all : (s : ℕ) (cell : Cell) → slice_get cells s ≡ Some cell → is_covered cell.stage ≡ false → (i : ℕ) × (slice_get slots i ≡ Some s)
  pub once : length slots ≡ count_by is_uncovered cells

-- What holds of a table: it lists the slots that the next sync covers, has room for all, and counts those that are open.
pub record IsTable (cells : List Cell) (slots : List ℕ) (capacity count : ℕ) : Type 0 where
  pub few : length cells ≤ most_slots
  pub room : length cells ≤ capacity
  pub listed : AreUnsynced cells slots
  pub opened : count ≡ open_count cells

-- a sync opens the slot
abbrev pub is_opening : Stage → Bool
is_opening Opening = true
is_opening _ = false

-- a slot at the first stage is listed when it comes to the second
abbrev pub is_listed_then : Stage → Stage → Bool
is_listed_then was stage = is_covered was && not (is_covered stage)

-- The stages of these slots moved on; another slot's did too, or stayed.
pub record AreMoved (before after : List Cell) (slots : List ℕ) : Type 0 where
  pub size : length after ≡ length before
  pub each : (s : ℕ) (cell : Cell) → slice_get before s ≡ Some cell → (slice_get after s ≡ Some cell) ⊎ (slice_get after s ≡ Some (cell_synced cell))
  pub moved : (i s : ℕ) (cell : Cell) → slice_get slots i ≡ Some s → slice_get before s ≡ Some cell → slice_get after s ≡ Some (cell_synced cell)

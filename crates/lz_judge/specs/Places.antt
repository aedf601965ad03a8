-- A table of the keys of a list's items: item i has the key `ks` i, if it has one.
use Rattle.std.specs.Prelude.{◌≡◌, ◌≢◌, ℕ, ◌+◌, ◌*◌, ◌/◌, ◌%◌, ◌^◌, ◌<◌, List, length, Option, None, Some, slice_index, slice_index_or}
use Rattle.lz_judge.specs.declared.places.Places.{Places}

-- the row, of so many, that is looked at for a key after so many others
unfoldable pub place_of : ℕ → ℕ → ℕ → ℕ
place_of key step size = ((key * 11400714819323198485 % 2 ^ 64) / 4294967296 + step) % 2 ^ 64 % size

-- the row, or 0 where there is none
abbrev pub row_at : Places → ℕ → ℕ
row_at places place = slice_index places.rows.items place

-- a row that is looked at for a key
abbrev pub row_of : Places → ℕ → ℕ → ℕ
row_of places key step = row_at places (place_of key step (length places.rows.items))

-- the rows that are looked at first are those of items
abbrev pub AreTaken : Places → ℕ → ℕ → Type 0
AreTaken places key steps = (r : ℕ) → r < steps → row_of places key r ≢ 0

-- the key has a row, and an item
pub record IsPlaced (ks : List (Option ℕ)) (places : Places) (key : ℕ) : Type 0 where
  pub step : ℕ
  pub low : step < length places.rows.items
  pub taken : AreTaken places key step
  pub item : ℕ
  pub row : row_of places key step ≡ item + 1
  pub is : slice_index_or ks item None ≡ Some key

-- each key of an item is placed
abbrev pub IsTable : List (Option ℕ) → Places → Type 0
IsTable ks places = (i k : ℕ) → slice_index_or ks i None ≡ Some k → IsPlaced ks places k

-- this row is free, and the first one for the key that is
pub record IsFree (places : Places) (key place : ℕ) : Type 0 where
  pub step : ℕ
  pub low : step < length places.rows.items
  pub place_is : place ≡ place_of key step (length places.rows.items)
  pub within : place < length places.rows.items
  pub free : row_at places place ≡ 0
  pub taken : AreTaken places key step

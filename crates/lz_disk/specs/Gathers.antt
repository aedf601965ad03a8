-- Writes that wait to be made as one.
use Rattle.std.specs.Prelude.{◌≡◌, ◌⊎◌, ℕ, ◌+◌, List, [], ◌++◌, length}

-- The bytes that are to be written from this offset on.
pub record Waiting : Type 0 where
  pub at : ℕ
  pub bytes : List ℕ

-- A write joined those that wait: it goes on where they end.
pub record Joined (at : ℕ) (bytes : List ℕ) (old new : Waiting) : Type 0 where
  pub first : (old.bytes ≡ []) ⊎ (new.at ≡ old.at)
  pub goes_on : at ≡ new.at + length old.bytes
  pub all : new.bytes ≡ old.bytes ++ bytes

-- Keys that are told, perhaps twice, and kept once.
use Rattle.std.specs.{Prelude.{◌≡◌, ◌≤◌, ◌⊎◌, ℕ, List, [], ◌∷◌, ◌++◌, All, true, false, nat_eq}, List.{IsDistinct}}
use Rattle.lz_slot.specs.{Limits.{largest_key}, Sets.{Same, members}}

-- the keys are those that were told, each of them once
pub record AreOnce (told keys : List ℕ) : Type 0 where
  pub same : Same (members keys) (members told)
  pub once : IsDistinct nat_eq keys
  pub fit : All (λ k. k ≤ largest_key) keys

-- a key was there, or it was put after the others
abbrev pub AddsOnce : ℕ → List ℕ → List ℕ → Type 0
AddsOnce key old new =
    ((members old key ≡ true) × (new ≡ old)) ⊎ ((members old key ≡ false) × (key ≤ largest_key) × (new ≡ old ++ key ∷ []))

-- The places of passes in a list.
use Rattle.std.proofs.Common.{◌≡◌, ◌≤◌, ◌-◌, arith, ℕ, List, slice_set}
use Rattle.lz_slot.specs.Counted.{set_of_pass}

pub set_at : {X : Type 0} (xs : List X) (a : ℕ) (x : X) → 1 ≤ a → set_of_pass xs a x ≡ slice_set xs (a - 1) x
set_at xs a x low = grind arith

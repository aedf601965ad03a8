-- A link word gives back what was put into it.
use Rattle.std.proofs.Common.{◌≡◌, ℕ, ◌^◌, ◌<◌, arith}
use Rattle.lz_list.specs.{declared.flags.Flags.{Flags}, Words.{link_with, next_of, flags_of}}

-- a link word without flags is its number
pub small_next : (x : ℕ) → x < 2 ^ 32 → next_of x ≡ x
small_next x lt = omega arith

module _ (n : ℕ) (small : n < 2 ^ 32) where
  pub next_of_link : (f : Flags) → next_of (link_with n f) ≡ n
  next_of_link f = grind arith

  pub mark_of_link : (f : Flags) → (flags_of (link_with n f)).mark ≡ f.mark
  mark_of_link f = grind arith

  pub added_of_link : (f : Flags) → (flags_of (link_with n f)).add_settled ≡ f.add_settled
  added_of_link f = grind arith

  pub removed_of_link : (f : Flags) → (flags_of (link_with n f)).remove_settled ≡ f.remove_settled
  removed_of_link f = grind arith

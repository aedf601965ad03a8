-- What the reader of a page's numbers finds.
use Rattle.std.proofs.Common.{◌≡◌, ℕ, ◌+◌, ◌-◌, ◌<◌, List, [], ◌∷◌, ◌++◌, Some, None, Ok, Err, arith}
use Rattle.lz_slot.specs.Limits.{largest_key}
use Rattle.lz_resp.{specs.{Pages.{number_at, numbers_at}, declared.fault.Fault.{Fault}}, proofs.Fronts.{front_more, one_less, with_front}}

module _ (n k : ℕ) (front text : List ℕ) (low : k < n) where
  pub numbers_next : (number : ℕ) (rest : List ℕ) → number_at largest_key text ≡ Ok (Some (number, rest))
      → with_front front (numbers_at (n - k) text) ≡ with_front (front ++ number ∷ []) (numbers_at (n - (k + 1)) rest)
  numbers_next number rest is = grind (arith, one_less, front_more)

  pub numbers_wait : number_at largest_key text ≡ Ok None → with_front front (numbers_at (n - k) text) ≡ Ok None
  numbers_wait is = grind (arith, one_less)

  pub numbers_fail : (f : Fault) → number_at largest_key text ≡ Err f → with_front front (numbers_at (n - k) text) ≡ Err f
  numbers_fail f is = grind (arith, one_less)

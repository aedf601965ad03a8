-- What Check found is where the machine's change goes.
use Rattle.std.proofs.{Common.{◌≡◌, ◌⊎◌, inl, inr, ℕ, suc, ◌<◌, ◌≤◌, [], ◌∷◌, sym, arith}, lemmas.Bool.Decides.{nat_tests}}
use Rattle.lz_list.{specs.Traces.{Chain, place_before, link_above, rank_at, WordsShow, Adjacent}, proofs.Chains.PlaceRank.{rank_on, adjacent_on}}

module _ (next keys : ℕ → ℕ) where
  pub place_between : (k x : ℕ) (c : Chain) → WordsShow next keys x c → (y n : ℕ) → Adjacent x c y n → rank_at keys y ≤ k → (n ≡ 0) ⊎ (suc k < rank_at keys n) → (place_before k x c ≡ y) × (link_above k c ≡ n)
  place_between k x [] h y n adj low high = (sym adj.0, sym adj.1)
  place_between k x (m ∷ c) h y n (inl here) low high = (grind (arith, nat_tests, here.0, here.1, h.1), grind (arith, nat_tests, here.1, h.1))
  place_between k x (m ∷ c) h y n (inr later) low high =
      let rest = place_between k (suc m.1) c h.3 y n later low high in
      let up = rank_on next keys (suc m.1) c h.3 y (adjacent_on (suc m.1) c y n later) in
      (grind (arith, nat_tests, rest.0, h.1), grind (arith, nat_tests, rest.1, h.1))

  -- a place that leads to the node of key k is the one before k
  pub place_to : (k s x : ℕ) (c : Chain) → WordsShow next keys x c → (y : ℕ) → Adjacent x c y (suc s) → rank_at keys y ≤ k → keys s ≡ k → place_before k x c ≡ y
  place_to k s x [] h y adj low key = sym adj.0
  place_to k s x (m ∷ c) h y (inl here) low key = grind arith
  place_to k s x (m ∷ c) h y (inr later) low key = grind (arith, place_to k s (suc m.1) c h.3 y later low key, rank_on next keys (suc m.1) c h.3 y (adjacent_on (suc m.1) c y (suc s) later))

-- Which keys stand once, told by their order.
use Rattle.std.proofs.Common.{◌≡◌, ℕ, ◌+◌, ◌<◌, List, [], ◌∷◌, ◌++◌, length, take, get_or, false, Option, None, Some, refl, sym, ap, ◌∙◌, arith}
use Rattle.std.proofs.lemmas.{Bool.Decides.{nat_tests}, List.{append-nil, take_more, Elements.{filter_map-append}}}
use Rattle.std.proofs.lemmas.{List.Sorted.{IsNonDecreasingBy-from_sort, IsPermutation-sym}, Map.Keys.{IsDistinct-IsPermutation, IsDistinct-from_apart}}
use Rattle.std.proofs.lemmas.Map.Keys.{IsStrictlyIncreasing-from_distinct, below_from_sorted, sorted_from_strictly_increasing}
use Rattle.std.specs.{List.{IsDistinct, filter_map, Sorted.{IsPermutation, IsSorted, IsStrictlyIncreasing}}, Ordering.{nat_cmp}, Prelude.{nat_eq}}

flips : (x y : ℕ) → nat_eq x y ≡ nat_eq y x
flips x y = grind (arith, nat_tests)

unlike : (x y : ℕ) → x < y → nat_eq x y ≡ false
unlike x y less = grind (arith, nat_tests)

module _ (ranks sorted : List ℕ) (permutation : IsPermutation ranks sorted) (up : IsSorted nat_cmp sorted) where
  pub once_rising : IsStrictlyIncreasing sorted → IsDistinct nat_eq ranks
  once_rising rise =
      let apart = IsDistinct-from_apart nat_eq sorted (λ i j d lt within. unlike (get_or sorted i d) (get_or sorted j d) (below_from_sorted sorted i j d (sorted_from_strictly_increasing sorted rise) lt within)) in
      IsDistinct-IsPermutation nat_eq flips sorted ranks (IsPermutation-sym ranks sorted permutation) apart

  pub rising_once : IsDistinct nat_eq ranks → IsStrictlyIncreasing sorted
  rising_once once = IsStrictlyIncreasing-from_distinct sorted (IsNonDecreasingBy-from_sort (λ x. x) sorted up) (IsDistinct-IsPermutation nat_eq flips ranks sorted permutation once)

-- the keys of one item more
module _ {T : Type 0} (key : T → Option ℕ) (items : List T) (i : ℕ) (item : T) (low : i < length items) (at : item ≡ get_or items i item) (ranks : List ℕ) (are : ranks ≡ filter_map key (take i items)) where
  all_more : filter_map key (take (i + 1) items) ≡ filter_map key (take i items) ++ filter_map key (item ∷ [])
  all_more = ap (filter_map key) (take_more items i item low ∙ ap (λ (x : T). take i items ++ x ∷ []) (sym at)) ∙ filter_map-append key (take i items) (item ∷ [])

  pub with_key : (rank : ℕ) → key item ≡ Some rank → ranks ++ rank ∷ [] ≡ filter_map key (take (i + 1) items)
  with_key rank is = rw (all_more, is, are) refl

  pub without_key : key item ≡ None → ranks ≡ filter_map key (take (i + 1) items)
  without_key is = rw (all_more, is, are) (sym (append-nil (filter_map key (take i items))))

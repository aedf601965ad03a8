use Rattle.lz_judge.proofs.once.has_each_key_once.Goals as goal
use Rattle.std.{proofs.Common.{◌↔◌, List, ℕ, IsTrue, subst}, specs.{List.{IsDistinct, Sorted.{IsStrictlyIncreasing}}, Prelude.{nat_eq}}}
use Rattle.lz_judge.proofs.SortedKeys.{once_rising, rising_once}

pub returns : goal.returns
returns g c =
    let ranks = c.in_ok-ranks.ranks.items in
    let sorted = c.sort_unstable.new.self.items in
    let rising : IsTrue c.is_rising.result ↔ IsStrictlyIncreasing sorted = subst (λ (l : List ℕ). IsTrue c.is_rising.result ↔ IsStrictlyIncreasing l) c.deref.ensures.value c.is_rising.ensures in
    subst (λ (l : List ℕ). IsTrue c.is_rising.result ↔ IsDistinct nat_eq l) c.in_ok-ranks.ensures (
      (λ is. once_rising ranks sorted c.sort_unstable.ensures.permutation c.sort_unstable.ensures.sorted (rising.0 is)),
      (λ once. rising.1 (rising_once ranks sorted c.sort_unstable.ensures.permutation c.sort_unstable.ensures.sorted once)),
    )

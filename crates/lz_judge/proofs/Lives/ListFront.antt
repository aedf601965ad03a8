-- The calls that stand before one in a list in the order of their places.
use Rattle.std.proofs.Common.{◌≡◌, inl, inr, ⊎_elim, ◌↔◌, ℕ, ◌<◌, List, [], ◌∷◌, ◌++◌, refl, subst, arith}
use Rattle.lz_slot.{specs.Histories.{History, IsEarlier, IsListed}, proofs.Listings.{listed_append, listed_left, listed_right}}
use Rattle.lz_judge.specs.{Records.{IsMade}, Flaws.{IsInOrder}}

-- what stands earlier in a part, or in the first of two parts, stands earlier in the whole
earlier_left : (i j : ℕ) (L R : List ℕ) → IsEarlier i j L → IsEarlier i j (L ++ R)
earlier_left i j [] R is = absurd is
earlier_left i j (k ∷ L) R (inl (here, behind)) = inl (here, listed_left j L R behind)
earlier_left i j (k ∷ L) R (inr there) = inr (earlier_left i j L R there)

earlier_across : (i j : ℕ) (L R : List ℕ) → IsListed i L → IsListed j R → IsEarlier i j (L ++ R)
earlier_across i j [] R is is' = absurd is
earlier_across i j (k ∷ L) R (inl here) is' = inl (here, listed_right j L R is')
earlier_across i j (k ∷ L) R (inr there) is' = inr (earlier_across i j L R there is')

earlier_right : (i j : ℕ) (L R : List ℕ) → IsEarlier i j R → IsEarlier i j (L ++ R)
earlier_right i j [] R is = is
earlier_right i j (k ∷ L) R is = inr (earlier_right i j L R is)

-- these are the calls below this place, in order
pub record IsFront (at : ℕ → ℕ → Type 0) (M : History) (place : ℕ) (front : List ℕ) : Type 0 where
  pub each : (j : ℕ) → IsListed j front ↔ (IsMade M j × ((p : ℕ) × at j p × (p < place)))
  pub ascending : (j k p q : ℕ) → IsEarlier j k front → at j p → at k q → p < q

pub front_is : (at : ℕ → ℕ → Type 0) → ((i p q : ℕ) → at i p → at i q → p ≡ q) → (M : History) (front rest : List ℕ) (i place : ℕ) → IsInOrder at M (front ++ i ∷ rest) → at i place → IsFront at M place front
front_is at one M front rest i place order here = record {
  each = λ j. (
    λ is. let (made, (p, there)) = (order.each j).0 (listed_left j front (i ∷ rest) is) in
        (made, (p, there, order.ascending j i p place (earlier_across j i front (i ∷ rest) is (inl refl)) there here)),
    λ (made, (p, there, lt)). ⊎_elim
        (λ left. left)
        (λ right. ⊎_elim
        (λ same. absurd (let e = one j p place there (subst (λ (n : ℕ). at n place) same here) in omega (arith, e, lt)))
        (λ behind. absurd (let more = order.ascending i j place p (earlier_right i j front (i ∷ rest) (inl (refl, behind))) here there in omega (arith, more, lt)))
        right)
        (listed_append j front (i ∷ rest) ((order.each j).1 (made, (p, there)))),
  );
  ascending = λ j k p q is there there'. order.ascending j k p q (earlier_left j k front (i ∷ rest) is) there there';
}

-- Which calls stand in two lists, one after the other.
use Rattle.std.proofs.Common.{◌⊎◌, inl, inr, ⊎_elim, ℕ, List, [], ◌∷◌, ◌++◌}
use Rattle.lz_slot.specs.Histories.{IsEarlier, IsListed}

pub listed_append : (i : ℕ) (L R : List ℕ) → IsListed i (L ++ R) → IsListed i L ⊎ IsListed i R
listed_append i [] R is = inr is
listed_append i (j ∷ L) R is = ⊎_elim (λ here. inl (inl here)) (λ there. ⊎_elim (λ left. inl (inr left)) (λ right. inr right) (listed_append i L R there)) is

pub listed_left : (i : ℕ) (L R : List ℕ) → IsListed i L → IsListed i (L ++ R)
listed_left i [] R is = absurd is
listed_left i (j ∷ L) R is = ⊎_elim (λ here. inl here) (λ there. inr (listed_left i L R there)) is

pub listed_right : (i : ℕ) (L R : List ℕ) → IsListed i R → IsListed i (L ++ R)
listed_right i [] R is = is
listed_right i (j ∷ L) R is = inr (listed_right i L R is)

pub earlier_append : (i j : ℕ) (L R : List ℕ) → IsEarlier i j (L ++ R) → IsEarlier i j L ⊎ (IsListed i L × IsListed j R) ⊎ IsEarlier i j R
earlier_append i j [] R is = inr (inr is)
earlier_append i j (k ∷ L) R is = ⊎_elim
    (λ (here, behind). ⊎_elim (λ left. inl (inl (here, left))) (λ right. inr (inl (inl here, right))) (listed_append j L R behind))
    (λ there. ⊎_elim (λ left. inl (inr left)) (λ rest. inr (⊎_elim (λ (l, r). inl (inr l, r)) (λ right. inr right) rest)) (earlier_append i j L R there))
    is

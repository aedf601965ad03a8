-- A key put at its place among ascending ones, and the members among the slots below some slot.
use Rattle.std.proofs.lemmas.{Bool.{false≢true, cases_eq, or_cases, or_left, or_right, Decides.{nat_tests, eqb_tells}}, List.Elements.{All-cons}}
use Rattle.std.proofs.Common.{◌≡◌, ◌⊎◌, inl, inr, ◌↔◌, ◌<◌, ◌≤◌, ◌+◌, ◌==◌, ◌||◌, ℕ, zero, suc, Bool, true, false, List, [], ◌∷◌, slice_get, Some, None}
use Rattle.std.{proofs.Common.{is_some, unwrap_or, refl, sym, ap, ◌∙◌, arith}, specs.List.{All, insert}}
use Rattle.lz_slot.specs.Sets.{members}
use Rattle.lz_list.specs.Words.{Words}
use Rattle.lz_core.specs.Worlds.{Ascend, IsListed, IsAmong}

-- the keys below a place are smaller, and the one at it is greater
abbrev pub Below : List ℕ → ℕ → ℕ → Type 0
Below xs i x = (j k : ℕ) → j < i → slice_get xs j ≡ Some k → k < x

abbrev pub From : List ℕ → ℕ → ℕ → Type 0
From xs i x = (k : ℕ) → slice_get xs i ≡ Some k → x < k

all_less : (x y : ℕ) (ys : List ℕ) → x < y → All (λ j. y < j) ys → All (λ j. x < j) ys
all_less x y ys lt all = λ k d within. let above = all k d within in omega arith

all_tail : (P : ℕ → Type 0) (x : ℕ) (xs : List ℕ) → All P (x ∷ xs) → All P xs
all_tail P x xs all = λ k d within. all (suc k) d (omega arith)

all_insert : (P : ℕ → Type 0) (xs : List ℕ) (i x : ℕ) → P x → All P xs → All P (insert xs i x)
all_insert P [] zero x at all = All-cons P x [] at all
all_insert P [] (suc i) x at all = All-cons P x [] at all
all_insert P (y ∷ ys) zero x at all = All-cons P x (y ∷ ys) at all
all_insert P (y ∷ ys) (suc i) x at all = All-cons P y (insert ys i x) (all 0 y (omega arith)) (all_insert P ys i x at (all_tail P y ys all))

pub ascend_insert : (xs : List ℕ) (i x : ℕ) → Ascend xs → Below xs i x → From xs i x → Ascend (insert xs i x)
ascend_insert [] zero x ascend below from = (λ k d within. omega arith, tt)
ascend_insert [] (suc i) x ascend below from = (λ k d within. omega arith, tt)
ascend_insert (y ∷ ys) zero x ascend below from =
    let lt = from y refl in
    (All-cons (λ j. x < j) y ys lt (all_less x y ys lt ascend.0), ascend)
ascend_insert (y ∷ ys) (suc i) x ascend below from =
    let lt : y < x = below 0 y (omega arith) refl in
    (all_insert (λ j. y < j) ys i x lt ascend.0, ascend_insert ys i x ascend.1 (λ j k within at. below (suc j) k (omega arith) at) from)

swap_or : (a b c : Bool) → (a || (b || c)) ≡ (b || (a || c))
swap_or true true c = refl
swap_or true false c = refl
swap_or false true c = refl
swap_or false false c = refl

pub members_insert : (xs : List ℕ) (i x k : ℕ) → members (insert xs i x) k ≡ ((x == k) || members xs k)
members_insert [] zero x k = refl
members_insert [] (suc i) x k = refl
members_insert (y ∷ ys) zero x k = refl
members_insert (y ∷ ys) (suc i) x k = ap (λ (b : Bool). (y == k) || b) (members_insert ys i x k) ∙ swap_or (y == k) (x == k) (members ys k)

-- the keys from there on are greater, where the key isn't there
pub from_there : (xs : List ℕ) (i x : ℕ) → ((k : ℕ) → slice_get xs i ≡ Some k → x ≤ k) → (slice_get xs i ≡ Some x → ⊥) → From xs i x
from_there xs i x at_least not_there k at = grind (arith, nat_tests, cases_eq)

or_twice : (a b : Bool) → (a || b) ≡ (a || (a || b))
or_twice true b = refl
or_twice false b = refl

-- a key that is there is a member
pub there : (xs : List ℕ) (i x k : ℕ) → slice_get xs i ≡ Some x → members xs k ≡ ((x == k) || members xs k)
there [] i x k at = absurd (false≢true (ap is_some at))
there (y ∷ ys) zero x k at = grind (arith, unwrap_or, or_twice)
there (y ∷ ys) (suc i) x k at = ap (λ (b : Bool). (y == k) || b) (there ys i x k at) ∙ swap_or (y == k) (x == k) (members ys k)

-- one slot more
more : (w : Words) (n : ℕ) (k : ℕ) → IsAmong w n k → IsAmong w (n + 1) k
more w n k (s, lt, rest) = (s, omega arith, rest)

less : (w : Words) (n : ℕ) (k : ℕ) → IsAmong w (n + 1) k → (IsListed w n k) ⊎ IsAmong w n k
less w n k (s, lt, rest) = grind (arith, cases_eq)

pub eq_of : (j k : ℕ) → (j == k) ≡ true → j ≡ k
eq_of j k is = grind (arith, eqb_tells)

eq_self : (j k : ℕ) → Some j ≡ Some k → (j == k) ≡ true
eq_self j k same = grind (arith, eqb_tells, unwrap_or)

module _ (w : Words) (n : ℕ) (old new : List ℕ) (invariant : (k : ℕ) → (members old k ≡ true) ↔ IsAmong w n k) where
  pub put : (key : ℕ) → ((k : ℕ) → (Some key ≡ Some k) ↔ IsListed w n k) → ((k : ℕ) → members new k ≡ ((key == k) || members old k))
      → (k : ℕ) → (members new k ≡ true) ↔ IsAmong w (n + 1) k
  put key listed both k = (
    (λ is. elim (or_cases (key == k) (members old k) (sym (both k) ∙ is)) [
      | inl same ↦ (n, omega arith, (listed k).0 (ap (λ (q : ℕ). Some q) (eq_of key k same)))
      | inr before ↦ more w n k ((invariant k).0 before)
    ]),
    (λ among. elim (less w n k among) [
      | inl here ↦ both k ∙ or_left (key == k) (members old k) (eq_self key k ((listed k).1 here))
      | inr before ↦ both k ∙ or_right (key == k) (members old k) ((invariant k).1 before)
    ]),
  )

  pub left : ((k : ℕ) → (None ≡ Some k) ↔ IsListed w n k) → new ≡ old → (k : ℕ) → (members new k ≡ true) ↔ IsAmong w (n + 1) k
  left listed same k = (
    (λ is. more w n k ((invariant k).0 (ap (λ (q : List ℕ). members q k) (sym same) ∙ is))),
    (λ among. elim (less w n k among) [
      | inl here ↦ absurd (false≢true (ap is_some ((listed k).1 here)))
      | inr before ↦ ap (λ (q : List ℕ). members q k) same ∙ (invariant k).1 before
    ]),
  )

-- the first key of a list is a member, and so are the later ones
pub first_of : (y : ℕ) (ys : List ℕ) → members (y ∷ ys) y ≡ true
first_of y ys = or_left (y == y) (members ys y) (eq_self y y refl)

pub later_of : (y k : ℕ) (ys : List ℕ) → members ys k ≡ true → members (y ∷ ys) k ≡ true
later_of y k ys is = or_right (y == k) (members ys k) is

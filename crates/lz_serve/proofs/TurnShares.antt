-- How many lines a turn has begun, and may.
use Rattle.std.proofs.Common.{◌≡◌, ◌≤◌, ◌+◌, ◌-◌, ◌==◌, ◌||◌, ℕ, zero, suc, Bool, true, false, refl, sym, subst, arith}

-- none more was begun
pub begun_same : (old new left bound : ℕ) → old + left ≤ bound → new ≡ old → new + left ≤ bound
begun_same old new left bound within same = omega (arith, within, same)

-- one more was at most, and none where none was left
pub fewer_left : (old new left bound : ℕ) → old + left ≤ bound → new ≤ old + 1 → (left ≡ 0 → new ≡ old) → new + (left - 1) ≤ bound
fewer_left old new zero bound within more none = let same = none refl in omega (arith, within, same)
fewer_left old new (suc left) bound within more none = omega (arith, within, more)

pub none_left : (ends wanted : Bool) (left : ℕ) → left ≡ 0 → (ends || (wanted || (left == 0))) ≡ true
none_left true wanted left none = refl
none_left false true left none = refl
none_left false false left none = subst (λ (n : ℕ). (n == 0) ≡ true) (sym none) refl

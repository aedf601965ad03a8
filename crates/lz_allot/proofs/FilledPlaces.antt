-- Several places of a list that get one value.
use Rattle.std.proofs.Common.{◌≡◌, ◌≢◌, ℕ, zero, suc, ◌+◌, ◌<◌, List, [], ◌∷◌, ◌++◌, length, get_or, set, take, drop, map, refl, sym, ◌∙◌, ap, arith}
use Rattle.std.proofs.{Common.{get_or-set_same, get_or-set_other, length-set}, lemmas.List.{take_more, map-set, set_past, take_at, Sums.{fold_push}}}
use Rattle.lz_allot.specs.Allots.{set_each}

module _ {X : Type 0} where
  pub length-set_each : (xs : List X) (places : List ℕ) (x : X) → length (set_each xs places x) ≡ length xs
  length-set_each xs [] x = refl
  length-set_each xs (i ∷ places) x = length-set_each (set xs i x) places x ∙ length-set xs i x

  -- one place more
  pub set_each_more : (xs : List X) (places : List ℕ) (x : X) (i : ℕ) → i < length places
      → set_each xs (take (i + 1) places) x ≡ set (set_each xs (take i places) x) (get_or places i 0) x
  set_each_more xs places x i low =
      ap (λ (ps : List ℕ). set_each xs ps x) (take_more places i 0 low) ∙ fold_push (λ ys j. set ys j x) xs (take i places) (get_or places i 0)

  -- a place that isn't among them
  pub set_each_other : (xs : List X) (places : List ℕ) (x d : X) (k : ℕ) → ((i : ℕ) → i < length places → get_or places i 0 ≢ k) → get_or (set_each xs places x) k d ≡ get_or xs k d
  set_each_other xs [] x d k other = refl
  set_each_other xs (p ∷ places) x d k other =
      set_each_other (set xs p x) places x d k (λ i low. other (suc i) (omega arith))
      ∙ get_or-set_other xs p k x d (λ same. other 0 (omega arith) (sym same))

  set_stays : (xs : List X) (p k : ℕ) (x d : X) → get_or xs k d ≡ x → get_or (set xs p x) k d ≡ x
  set_stays xs p k x d is = grind (arith, get_or-set_same, get_or-set_other, set_past)

  stays : (xs : List X) (places : List ℕ) (x d : X) (k : ℕ) → get_or xs k d ≡ x → get_or (set_each xs places x) k d ≡ x
  stays xs [] x d k is = is
  stays xs (p ∷ places) x d k is = stays (set xs p x) places x d k (set_stays xs p k x d is)

  -- a place among them
  pub set_each_same : (xs : List X) (places : List ℕ) (x d : X) (i : ℕ) → i < length places → get_or places i 0 < length xs → get_or (set_each xs places x) (get_or places i 0) d ≡ x
  set_each_same xs [] x d i low inside = absurd (omega arith)
  set_each_same xs (p ∷ places) x d zero low inside = stays (set xs p x) places x d p (get_or-set_same xs p x d inside)
  set_each_same xs (p ∷ places) x d (suc i) low inside = set_each_same (set xs p x) places x d i (omega arith) (omega (arith, length-set xs p x))

  pub map-set_each : {Y : Type 0} (f : X → Y) (xs : List X) (places : List ℕ) (x : X) → map f (set_each xs places x) ≡ set_each (map f xs) places (f x)
  map-set_each f xs [] x = refl
  map-set_each {Y = Y} f xs (p ∷ places) x = map-set_each f (set xs p x) places x ∙ ap (λ (ys : List Y). set_each ys places (f x)) (map-set f xs p x)

  -- a slice of a whole list was written
  pub written_whole : (n : ℕ) (new old : List X) → n ≡ length old → length new ≡ length old → take n (new ++ drop (length new) old) ≡ new
  written_whole n new old count same = take_at new (drop (length new) old) n (same ∙ sym count)

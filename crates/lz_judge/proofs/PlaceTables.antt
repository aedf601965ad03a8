-- The table of the keys of a list's items.
use Rattle.std.proofs.Common.{◌≡◌, ◌≢◌, ⊎_elim, ℕ, zero, suc, ◌+◌, ◌-◌, ◌<◌, ◌≤◌, List, [], ◌∷◌, ◌++◌, length, get_or, set, Option, None, Some, sym, ap, subst}
use Rattle.std.proofs.{Common.{◌∙◌, arith, length-append, length-set, get_or-set_same, get_or-set_other, map}, Math.ListN.{get_or-append}}
use Rattle.std.proofs.{Math.Seq.{get_or-append_seam}, lemmas.{List.{get_or-map, length-map}, Bool.{cases_eq, cases_lt}}}
use Rattle.lz_judge.specs.{Places.{AreTaken, IsFree, IsPlaced, IsTable, place_of, row_at, row_of}, declared.places.Places.{Places}}

-- an item with a key is one of the list
inside : (ks : List (Option ℕ)) (i k : ℕ) → get_or ks i None ≡ Some k → i < length ks
inside [] i k is = absurd (cc)
inside (x ∷ ks) zero k is = omega arith
inside (x ∷ ks) (suc i) k is = let ih = inside ks i k is in omega (arith, ih)

-- one item more
longer : (ks : List (Option ℕ)) (o : Option ℕ) (i k : ℕ) → get_or ks i None ≡ Some k → get_or (ks ++ o ∷ []) i None ≡ Some k
longer ks o i k is = get_or-append ks (o ∷ []) None i (inside ks i k is) ∙ is

-- an item of the longer list is one of the list, or the last
cases_last : (ks : List (Option ℕ)) (o : Option ℕ) (i k : ℕ) {C : Type 0} → get_or (ks ++ o ∷ []) i None ≡ Some k → (get_or ks i None ≡ Some k → C) → (o ≡ Some k → C) → C
cases_last ks o i k is old last = ⊎_elim
    (λ low. old (sym (get_or-append ks (o ∷ []) None i low) ∙ is))
    (λ high.
    let lt = inside (ks ++ o ∷ []) i k is in
    let here : length ks ≡ i = omega (arith, lt, high, length-append ks (o ∷ [])) in
    last (sym (get_or-append_seam ks o [] None) ∙ ap (λ (j : ℕ). get_or (ks ++ o ∷ []) j None) here ∙ is))
    (cases_lt i (length ks))

placed_longer : (ks : List (Option ℕ)) (o : Option ℕ) (places : Places) (k : ℕ) → IsPlaced ks places k → IsPlaced (ks ++ o ∷ []) places k
placed_longer ks o places k h = record { step = h.step; low = h.low; taken = h.taken; item = h.item; row = h.row; is = longer ks o h.item k h.is }

-- an item without a key
pub table_keyless : (ks : List (Option ℕ)) (places : Places) → IsTable ks places → IsTable (ks ++ None ∷ []) places
table_keyless ks places table i k is = cases_last ks None i k is (λ old. placed_longer ks None places k (table i k old)) (λ last. absurd (cc))

-- an item with one
module _ (ks : List (Option ℕ)) (key : ℕ) (old new : Places) (place : ℕ) (free : IsFree old key place) (rows : new.rows.items ≡ set old.rows.items place (length ks + 1)) where
  same_size : length new.rows.items ≡ length old.rows.items
  same_size = ap (λ (xs : List ℕ). length xs) rows ∙ length-set old.rows.items place (length ks + 1)

  row_here : row_at new place ≡ length ks + 1
  row_here = ap (λ (xs : List ℕ). get_or xs place 0) rows ∙ get_or-set_same old.rows.items place (length ks + 1) 0 free.within

  row_there : (p : ℕ) → p ≢ place → row_at new p ≡ row_at old p
  row_there p apart = ap (λ (xs : List ℕ). get_or xs p 0) rows ∙ get_or-set_other old.rows.items place p (length ks + 1) 0 apart

  still : (p : ℕ) → row_at old p ≢ 0 → row_at new p ≢ 0
  still p some none = grind (arith, row_here, row_there, cases_eq)

  place_same : (k step : ℕ) → place_of k step (length new.rows.items) ≡ place_of k step (length old.rows.items)
  place_same k step = ap (λ (n : ℕ). place_of k step n) same_size

  taken_still : (k steps : ℕ) → AreTaken old k steps → AreTaken new k steps
  taken_still k steps taken r lt none = still (place_of k r (length old.rows.items)) (taken r lt) (ap (row_at new) (sym (place_same k r)) ∙ none)

  placed_still : (k : ℕ) → IsPlaced ks old k → IsPlaced (ks ++ Some key ∷ []) new k
  placed_still k h = record {
    step = h.step;
    low = omega (arith, h.low, same_size);
    taken = taken_still k h.step h.taken;
    item = h.item;
    row = ap (row_at new) (place_same k h.step) ∙ row_there (place_of k h.step (length old.rows.items)) apart ∙ h.row;
    is = longer ks (Some key) h.item k h.is;
  }
    where
      apart : place_of k h.step (length old.rows.items) ≢ place
      apart here = let none = ap (row_at old) here ∙ free.free in omega (arith, none, h.row)

  pub table_put : IsTable ks old → IsTable (ks ++ Some key ∷ []) new
  table_put table i k is = cases_last ks (Some key) i k is (λ before. placed_still k (table i k before)) last
    where
      last : Some key ≡ Some k → IsPlaced (ks ++ Some key ∷ []) new k
      last same = subst (IsPlaced (ks ++ Some key ∷ []) new) (cc) (record {
        step = free.step;
        low = omega (arith, free.low, same_size);
        taken = taken_still key free.step free.taken;
        item = length ks;
        row = ap (row_at new) (place_same key free.step ∙ sym free.place_is) ∙ row_here;
        is = get_or-append_seam ks (Some key) [] None;
      })

-- What was seen of a key in the rows that were looked at.
abbrev pub IsNotIn : List (Option ℕ) → Places → ℕ → ℕ → Type 0
IsNotIn ks places key steps = (r i : ℕ) → r < steps → row_of places key r ≡ i + 1 → get_or ks i None ≢ Some key

module _ (ks : List (Option ℕ)) (places : Places) (key : ℕ) (table : IsTable ks places) where
  -- a free row ends the search
  pub absent_free : (steps : ℕ) → IsNotIn ks places key steps → row_of places key steps ≡ 0 → (i : ℕ) → get_or ks i None ≢ Some key
  absent_free steps out free i is =
      let h = table i key is in
      ⊎_elim
      (λ low. out h.step h.item low h.row h.is)
      (λ high. ⊎_elim
      (λ (below : steps < h.step). h.taken steps below free)
      (λ le. let here : steps ≡ h.step = omega (arith, high, le) in omega (arith, h.row, ap (row_of places key) (sym here) ∙ free))
      (cases_lt steps h.step))
      (cases_lt h.step steps)

  -- all rows were looked at
  pub absent_all : (steps : ℕ) → IsNotIn ks places key steps → length places.rows.items ≤ steps → (i : ℕ) → get_or ks i None ≢ Some key
  absent_all steps out all i is = let h = table i key is in out h.step h.item (omega (arith, h.low, all)) h.row h.is

before : (row i : ℕ) → row ≡ i + 1 → row - 1 ≡ i
before row i is = omega (arith, is)

-- the last of some items
module _ {T : Type 0} (key : T → Option ℕ) (items : List T) (ks : List (Option ℕ)) (k : Option ℕ) (is : map key items ≡ ks ++ k ∷ []) where
  pub one_longer : length items ≡ length ks + 1
  one_longer = omega (arith, ap (λ (l : List (Option ℕ)). length l) is, length-map items key, length-append ks (k ∷ []))

  pub last_key : (item : T) (n : ℕ) → n ≡ length ks → item ≡ get_or items n item → key item ≡ k
  last_key item n same at =
      ap key at ∙ sym (get_or-map key items n item None (omega (arith, same, one_longer))) ∙ ap (λ (l : List (Option ℕ)). get_or l n None) is
      ∙ ap (λ (j : ℕ). get_or (ks ++ k ∷ []) j None) same ∙ get_or-append_seam ks k [] None

-- Which slot of a file is the lowest whose key lies outside a set, told from what was found.
use Rattle.lz_slot.specs.declared.slot.SlotRead.TheVariants as read
use Rattle.std.proofs.Common.{◌≡◌, ◌≢◌, ⊎_elim, ℕ, zero, suc, ◌+◌, ◌<◌, ◌≤◌, List, [], ◌∷◌, ◌++◌, length, get_or, take, refl, sym, ◌∙◌, ap, subst, arith, true}
use Rattle.std.proofs.{Common.{false, IsTrue, Option, None, Some, All, map, Contains, MatchOption, is_some}, lemmas.Bool.{cases_lt, eq-eqb}}
use Rattle.std.proofs.lemmas.{Bool.Decides.{nat_tests}, List.{append-nil, get_or-map, get_or-take, length-map, length-take, take_all}}
use Rattle.std.proofs.{lemmas.List.Elements.{All-contains, All-more, All-same}, Math.{ListN.{get_or-append, length-append}, Seq.{get_or-append_seam}}}
use Rattle.lz_slot.specs.{Bytes.{slot_at}, Sets.{Keys}, declared.slot.SlotRead.{SlotRead}}
use Rattle.lz_judge.specs.declared.finding.Finding.{Finding, TheVariants.{Key}}
use Rattle.lz_judge.specs.Surveys.{IsFinding, IsFirst, finding_key, found_keys, is_sound, open_slot, open_slots, slot_of}
use Rattle.lz_judge.specs.Renewals.{AreHeld, IsFirstOutside, IsLowestOutside, IsWithin}
use Rattle.lz_judge.proofs.Surveys.SlotFinding.{IsOpened, first_of, found_below, same_member, sound_where}

-- numbers below n, each above those before it
record Ascend (xs : List ℕ) (n : ℕ) : Type 0 where
  below : (p : ℕ) → p < length xs → get_or xs p 0 < n
  rising : (p q : ℕ) → p < q → q < length xs → get_or xs p 0 < get_or xs q 0

ascend_push : (xs : List ℕ) (n : ℕ) → Ascend xs n → Ascend (xs ++ n ∷ []) (suc n)
ascend_push xs n old = record {
  below = λ p lt. ⊎_elim
      (λ less. let low = old.below p less in rw (front p less) (omega (arith, low)))
      (λ least. rw (last p (omega (arith, lt, least, size))) (omega arith))
      (cases_lt p (length xs));
  rising = λ p q less lt. ⊎_elim
      (λ inner. let low = old.rising p q less inner in rw (front p (omega (arith, less, inner)), front q inner) low)
      (λ least.
      let end : q ≡ length xs = omega (arith, lt, least, size) in
      let inner : p < length xs = omega (arith, less, end) in
      let low = old.below p inner in
      rw (front p inner, last q end) low)
      (cases_lt q (length xs));
}
  where
    size : length (xs ++ n ∷ []) ≡ length xs + 1
    size = length-append xs (n ∷ [])

    front : (p : ℕ) → p < length xs → get_or (xs ++ n ∷ []) p 0 ≡ get_or xs p 0
    front p less = get_or-append xs (n ∷ []) 0 p less

    last : (p : ℕ) → p ≡ length xs → get_or (xs ++ n ∷ []) p 0 ≡ n
    last p end = ap (λ (i : ℕ). get_or (xs ++ n ∷ []) i 0) end ∙ get_or-append_seam xs n [] 0

ascend_slot : (r : SlotRead) (xs : List ℕ) (n : ℕ) → Ascend xs n → Ascend (xs ++ open_slot r n) (suc n)
ascend_slot (read.Member k) xs n old = ascend_push xs n old
ascend_slot read.BadKey xs n old = ascend_push xs n old
ascend_slot _ xs n old = grind (arith, nat_tests, append-nil)

slots_ascend : (says : ℕ → SlotRead) (n : ℕ) → Ascend (open_slots says n) n
slots_ascend says zero = record { below = λ p lt. absurd (omega (arith, lt)); rising = λ p q less lt. absurd (omega (arith, lt)) }
slots_ascend says (suc n) = ascend_slot (says n) (open_slots says n) n (slots_ascend says n)

module _ (t : List ℕ) (found : List Finding) (held : AreHeld t found) (T : Keys) where
  sound : All (λ f. IsTrue (is_sound f)) found
  sound = sound_where (slot_at t) held.slots found held.findings held.held.no_bad_key held.held.no_key_twice

  pub finding_of_key : (i k : ℕ) → i < held.slots → slot_at t i ≡ read.Member k → Contains found (Key i k)
  finding_of_key i k lt is =
      let (q, at, first) = first_of (slot_at t) held.slots found held.findings sound i lt (subst IsOpened (sym is) tt) in
      subst (λ (j : ℕ). Contains found (Key i j)) (same_member q k (sym first.holds ∙ is)) at

  -- the place of a finding
  place_slot : (finding : Finding) (p : ℕ) → p < length found → get_or found p finding ≡ finding → get_or (map slot_of found) p 0 ≡ slot_of finding
  place_slot finding p lt at = get_or-map slot_of found p finding 0 lt ∙ ap slot_of at

  rising : (p q : ℕ) → p < q → q < length found → get_or (map slot_of found) p 0 < get_or (map slot_of found) q 0
  rising p q less lt =
      subst (λ (l : List ℕ). (p q : ℕ) → p < q → q < length l → get_or l p 0 < get_or l q 0) (sym held.findings.slots) (slots_ascend (slot_at t) held.slots).rising p q less
      (omega (arith, lt, length-map_slots))
    where
      length-map_slots : length (map slot_of found) ≡ length found
      length-map_slots = length-map found slot_of

  -- where each key that was found is in the set, the file's keys are
  pub all_within : All (IsWithin T) found → (k : ℕ) → IsTrue (found_keys found k) → IsTrue (T k)
  all_within each k is =
      let (i, lt, at) = (held.held.set k).0 is in
      All-contains (IsWithin T) found (Key i k) each (finding_of_key i k lt at)

  -- the first finding that is a key outside the set has the lowest such slot
  pub lowest_outside : (i : ℕ) → IsFirstOutside T found i → IsLowestOutside t held.slots T i
  lowest_outside i first = record {
    below = found_below (slot_at t) held.slots found held.findings (Key i first.key) at;
    outside = (first.key, is.holds, first.outside);
    lowest = λ j k less there.
        let (p, lt, here) = finding_of_key j k (omega (arith, less, found_below (slot_at t) held.slots found held.findings (Key i first.key) at)) there in
        ⊎_elim
        (λ before. All-contains (IsWithin T) (take first.place found) (Key j k) first.before
        (p, omega (arith, before, lt, length-take first.place found), get_or-take first.place found p (Key j k) before ∙ here))
        (λ behind. absurd (not_behind j k p lt here less behind))
        (cases_lt p first.place);
  }
    where
      at : Contains found (Key i first.key)
      at = (first.place, first.there.0, first.there.1)

      is : IsFirst (slot_at t) i first.key
      is = All-contains (IsFinding (slot_at t)) found (Key i first.key) held.findings.each at

      slot_here : get_or (map slot_of found) first.place 0 ≡ i
      slot_here = place_slot (Key i first.key) first.place first.there.0 first.there.1

      not_behind : (j k p : ℕ) → p < length found → get_or found p (Key j k) ≡ Key j k → j < i → first.place ≤ p → ⊥
      not_behind j k p lt here less behind = ⊎_elim
          (λ apart. let up = rising first.place p apart lt in omega (arith, up, slot_here, slot_j, less))
          (λ close. let same : p ≡ first.place = omega (arith, close, behind) in omega (arith, slot_here, slot_j, less, ap (λ (q : ℕ). get_or (map slot_of found) q 0) same))
          (cases_lt first.place p)
        where
          slot_j : get_or (map slot_of found) p 0 ≡ j
          slot_j = place_slot (Key j k) p lt here

-- The search for the first finding that is a key outside a set
abbrev IsOutsideAt : Keys → Finding → ℕ → Type 0
IsOutsideAt S finding slot = (k : ℕ) × (finding ≡ Key slot k) × (S k ≡ false)

module _ (S : Keys) (found : List Finding) (p : ℕ) (finding : Finding) (lt : p < length found) (at : finding ≡ get_or found p finding) (before : All (IsWithin S) (take p found)) where
  pub found_outside : (slot : Option ℕ) → is_some slot ≡ true → MatchOption slot (IsWithin S finding) (IsOutsideAt S finding) → MatchOption slot (All (IsWithin S) found) (IsFirstOutside S found)
  found_outside None some told = let e : false ≡ true = some in absurd (cc)
  found_outside (Some slot) some (k, is, outside) = grind (arith, get_or)

  pub found_within : (slot : Option ℕ) → is_some slot ≡ false → MatchOption slot (IsWithin S finding) (IsOutsideAt S finding) → All (IsWithin S) (take (p + 1) found)
  found_within None none told = All-more (IsWithin S) found p finding lt before (subst (IsWithin S) at told)
  found_within (Some slot) none told = let e : true ≡ false = none in absurd (cc)

pub all_found_within : (S : Keys) (found : List Finding) (p : ℕ) → length found ≤ p → All (IsWithin S) (take p found) → All (IsWithin S) found
all_found_within S found p end each = All-same (IsWithin S) found (take p found) (sym (take_all p found end)) each

-- whether a key is among those that were found
pub key_any : (found : List Finding) (i k : ℕ) → get_or (map finding_key found) i None ≡ Some k → found_keys found k ≡ true
key_any [] i k is = absurd (cc)
key_any (Key j q ∷ found) zero k is = let same : q ≡ k = cc in let here = eq-eqb q k same in grind (arith, here)
key_any (f ∷ found) (suc i) k is = let ih = key_any found i k is in grind (arith, ih)
key_any (_ ∷ found) zero k is = absurd (cc)

pub key_none : (found : List Finding) (k : ℕ) → ((i : ℕ) → get_or (map finding_key found) i None ≢ Some k) → found_keys found k ≡ false
key_none [] k none = refl
key_none (Key j q ∷ found) k none =
    let rest = key_none found k (λ i. none (suc i)) in
    let here : q ≢ k = λ same. none zero (ap Some same) in
    grind (arith, nat_tests, rest, here)
key_none (_ ∷ found) k none = key_none found k (λ i. none (suc i))

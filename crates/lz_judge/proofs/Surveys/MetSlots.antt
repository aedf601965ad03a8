-- What a scan met at slots, and what is found there.
use Rattle.lz_slot.specs.declared.slot.SlotRead.TheVariants as read
use Rattle.std.proofs.Common.{◌≡◌, ⊎_elim, ℕ, zero, suc, ◌+◌, ◌<◌, ◌≤◌, false, List, [], ◌∷◌, ◌++◌, length, take, get_or, sym, refl, ◌∙◌, ap, subst, arith, Ok}
use Rattle.std.proofs.{Common.{Err, add-one, rules, Result, All, map, Contains, OnOk, length-append}, lemmas.Bool.{cases_lt, Decides.{nat_tests}}}
use Rattle.std.proofs.lemmas.List.{get_or-map, length-map, map-append, take-append-le, take_all, Elements.{All-push, All-contains, Contains-get_or}}
use Rattle.std.proofs.{lemmas.Map.Keys.{IsDistinct-head, IsDistinct-tail}, Math.{ListN.{get_or-append}, Seq.{get_or-append_seam, take-suc}}}
use Rattle.std.specs.{List.{AllByRecursion, IsDistinct, filter_map}, Prelude.{nat_eq}}
use Rattle.lz_slot.specs.declared.slot.SlotRead.{SlotRead}
use Rattle.lz_judge.specs.{declared.{finding.Finding.{Finding, TheVariants.{Key, BadKey, Twice}}, scan.Scan.{Scan}}, Scans.{AreMet, IsMet, Scanned}}
use Rattle.lz_judge.specs.Surveys.{AreFindings, IsFinding, finding_key, open_slot, open_slots, slot_of}
use Rattle.lz_judge.proofs.Surveys.SlotFinding.{IsOpened, at_slot, below_slots, same_member}

-- one slot more was taken
module _ (says : ℕ → SlotRead) (n : ℕ) where
  pub met_closed : (met : List Finding) → open_slot (says n) n ≡ [] → AreMet says n met → AreMet says (n + 1) met
  met_closed met shut before = record {
    each = before.each;
    slots = rw add-one (before.slots ∙ none shut);
  }
    where
      none : open_slot (says n) n ≡ [] → open_slots says n ≡ open_slots says n ++ open_slot (says n) n
      none is = rw is (search rules)

  pub met_more : (old new : Scan) (finding : Finding) {E : Type 0} (r : Result (Unit {0}) E) → IsOpened (says n) → slot_of finding ≡ n → IsMet says finding
      → OnOk r (new.met.items ≡ old.met.items ++ finding ∷ []) → Scanned says n old → OnOk r (Scanned says (n + 1) new)
  met_more old new finding (Ok done) some at is grows before = rw grows (record {
    each = All-push (IsMet says) old.met.items finding before.each is;
    slots = rw add-one (map-append slot_of old.met.items (finding ∷ []) ∙ (λ i. before.slots i ++ (at i ∷ [])) ∙ ap (λ (l : List ℕ). open_slots says n ++ l) (sym (opened_one (says n) some)));
  })
    where
      opened_one : (r : SlotRead) → IsOpened r → open_slot r n ≡ n ∷ []
      opened_one (read.Member k) some = refl
      opened_one read.BadKey some = refl
      opened_one _ some = absurd some
  met_more old new finding (Err fault) some at is grows before = tt

-- A key that stands once is met at one slot.
abbrev AreOthers : ℕ → List Finding → Type 0
AreOthers k met = AllByRecursion (λ q. nat_eq k q ≡ false) (filter_map finding_key met)

none_later : (k : ℕ) (met : List Finding) → AreOthers k met → (i : ℕ) → Contains met (Key i k) → ⊥
none_later k [] others i (p, lt, at) = absurd (omega (arith, lt))
none_later k (x ∷ met) others i (zero, lt, at) =
    let here = subst (λ (f : Finding). AreOthers k (f ∷ met)) at others in
    let not : nat_eq k k ≡ false = here.0 in
    absurd (grind (arith, nat_tests, not))
none_later k (Key j q ∷ met) others i (suc p, lt, at) = none_later k met others.1 i (p, omega (arith, lt), at)
none_later k (BadKey j ∷ met) others i (suc p, lt, at) = none_later k met others i (p, omega (arith, lt), at)
none_later k (Twice j first ∷ met) others i (suc p, lt, at) = none_later k met others i (p, omega (arith, lt), at)

distinct_from : (x : Finding) (met : List Finding) (i k : ℕ) → IsDistinct nat_eq (filter_map finding_key (x ∷ met)) → x ≡ Key i k → AreOthers k met
distinct_from x met i k once at =
    IsDistinct-head nat_eq k (filter_map finding_key met) (subst (λ (f : Finding). IsDistinct nat_eq (filter_map finding_key (f ∷ met))) at once)

distinct_rest : (x : Finding) (met : List Finding) → IsDistinct nat_eq (filter_map finding_key (x ∷ met)) → IsDistinct nat_eq (filter_map finding_key met)
distinct_rest (Key j q) met once = IsDistinct-tail nat_eq q (filter_map finding_key met) once
distinct_rest (BadKey j) met once = once
distinct_rest (Twice j first) met once = once

one_slot : (met : List Finding) → IsDistinct nat_eq (filter_map finding_key met) → (i j k : ℕ) → Contains met (Key i k) → Contains met (Key j k) → i ≡ j
one_slot [] once i j k (p, lt, at) (q, lt', at') = absurd (omega (arith, lt))
one_slot (x ∷ met) once i j k (zero, lt, at) (zero, lt', at') = let same : Key i k ≡ Key j k = sym at ∙ at' in cc
one_slot (x ∷ met) once i j k (zero, lt, at) (suc q, lt', at') = absurd (none_later k met (distinct_from x met i k once at) j (q, omega (arith, lt'), at'))
one_slot (x ∷ met) once i j k (suc p, lt, at) (zero, lt', at') = absurd (none_later k met (distinct_from x met j k once at') i (p, omega (arith, lt), at))
one_slot (x ∷ met) once i j k (suc p, lt, at) (suc q, lt', at') = one_slot met (distinct_rest x met once) i j k (p, omega (arith, lt), at) (q, omega (arith, lt'), at')

-- Where no key was met twice, what was met is what is found.
module _ (says : ℕ → SlotRead) (n : ℕ) (met : List Finding) (are : AreMet says n met) (once : IsDistinct nat_eq (filter_map finding_key met)) where
  key_met : (j k : ℕ) → j < n → says j ≡ read.Member k → Contains met (Key j k)
  key_met j k lt there = let (finding, at, here) = at_slot says n met are.slots j lt (subst IsOpened (sym there) tt) in told finding at (All-contains (IsMet says) met finding are.each at) here
    where
      told : (finding : Finding) → Contains met finding → IsMet says finding → slot_of finding ≡ j → Contains met (Key j k)
      told (Key i q) at is here =
          let key : q ≡ k = same_member q k (sym is ∙ ap says here ∙ there) in
          subst (λ (r : ℕ). Contains met (Key j r)) key (subst (λ (p : ℕ). Contains met (Key p q)) here at)
      told (BadKey i) at is here = absurd (let e : read.BadKey ≡ read.Member k = sym is ∙ ap says here ∙ there in cc)
      told (Twice i first) at is here = absurd is

  is_found : (finding : Finding) → Contains met finding → IsMet says finding → IsFinding says finding
  is_found (Key i k) at is = record {
    holds = is;
    lowest = λ j low there.
        let range = below_slots says n met are.slots (Key i k) at in
        let same = one_slot met once i j k at (key_met j k (omega (arith, low, range)) there) in
        omega (arith, low, same);
  }
  is_found (BadKey i) at is = is
  is_found (Twice i first) at is = absurd is

  pub found_as_met : AreFindings says n met
  found_as_met = record { each = λ p d lt. is_found (get_or met p d) (Contains-get_or met p d lt) (are.each p d lt); slots = are.slots }

-- the open slots before one of them are those below it
module _ (says : ℕ → SlotRead) (n p : ℕ) where
  abbrev before : List ℕ
  before = open_slots says n

  abbrev IsFront : List ℕ → Type 0
  IsFront slots = take p slots ≡ open_slots says (get_or slots p 0)

  front_inner : (more : List ℕ) → p < length before → IsFront before → IsFront (before ++ more)
  front_inner more low is = take-append-le p before more (omega (arith, low)) ∙ is ∙ ap (open_slots says) (sym (get_or-append before more 0 p low))

  front_last : length before ≡ p → IsFront (before ++ n ∷ [])
  front_last end =
      take-append-le p before (n ∷ []) (omega (arith, end)) ∙ take_all p before (omega (arith, end))
      ∙ ap (open_slots says) (sym (ap (λ (i : ℕ). get_or (before ++ n ∷ []) i 0) (sym end) ∙ get_or-append_seam before n [] 0))

  front_one : (p < length before → IsFront before) → p < length (before ++ n ∷ []) → IsFront (before ++ n ∷ [])
  front_one is lt = ⊎_elim
      (λ low. front_inner (n ∷ []) low (is low))
      (λ high. front_last (omega (arith, lt, high, length-append before (n ∷ []))))
      (cases_lt p (length before))

  front_more : (r : SlotRead) → (p < length before → IsFront before) → p < length (before ++ open_slot r n)
      → IsFront (before ++ open_slot r n)
  front_more (read.Member k) is lt = front_one is lt
  front_more read.BadKey is lt = front_one is lt
  front_more _ is lt = let low : p < length before = omega (arith, lt, length-append before []) in front_inner [] low (is low)

front_of : (says : ℕ → SlotRead) (n p : ℕ) → p < length (open_slots says n) → take p (open_slots says n) ≡ open_slots says (get_or (open_slots says n) p 0)
front_of says zero p lt = absurd (omega (arith, lt))
front_of says (suc n) p lt = front_more says n p (says n) (front_of says n p) lt

-- what is found at the slots of the first i that were met
pub record IsTelling (says : ℕ → SlotRead) (met : List Finding) (i : ℕ) (told : List Finding) : Type 0 where
  pub each : All (IsFinding says) told
  pub slots : map slot_of told ≡ take i (map slot_of met)

module _ (says : ℕ → SlotRead) (n : ℕ) (met : List Finding) (are : AreMet says n met) (i : ℕ) (d : Finding) (low : i < length met) (told : List Finding) (telling : IsTelling says met i told) where
  slot_here : get_or (map slot_of met) i 0 ≡ slot_of (get_or met i d)
  slot_here = get_or-map slot_of met i d 0 low

  pub told_below : AreFindings says (slot_of (get_or met i d)) told
  told_below = record {
    each = telling.each;
    slots = telling.slots ∙ ap (take i) are.slots ∙ front_of says n i range ∙ ap (open_slots says) (ap (λ (l : List ℕ). get_or l i 0) (sym are.slots) ∙ slot_here);
  }
    where
      range : i < length (open_slots says n)
      range = omega (arith, low, length-map met slot_of, ap (λ (l : List ℕ). length l) are.slots)

  pub told_more : (finding : Finding) → IsFinding says finding → slot_of finding ≡ slot_of (get_or met i d) → IsTelling says met (i + 1) (told ++ finding ∷ [])
  told_more finding is same = record {
    each = All-push (IsFinding says) told finding telling.each is;
    slots = map-append slot_of told (finding ∷ []) ∙ (λ j. telling.slots j ++ ((same ∙ sym slot_here) j ∷ []))
        ∙ sym (ap (λ (m : ℕ). take m (map slot_of met)) next ∙ take-suc (map slot_of met) i 0 (omega (arith, low, length-map met slot_of)));
  }
    where
      next : i + 1 ≡ suc i
      next = omega arith

pub told_none : (says : ℕ → SlotRead) (met : List Finding) → IsTelling says met 0 []
told_none says met = record { each = λ p d lt. absurd (omega (arith, lt)); slots = refl }

pub told_all : (says : ℕ → SlotRead) (n : ℕ) (met told : List Finding) (i : ℕ) → AreMet says n met → length met ≤ i → IsTelling says met i told → AreFindings says n told
told_all says n met told i are all telling = record {
  each = telling.each;
  slots = telling.slots ∙ take_all i (map slot_of met) (omega (arith, all, length-map met slot_of)) ∙ are.slots;
}

-- What a survey says of each slot, and what one without damage says.
use Rattle.lz_slot.specs.declared.slot.SlotRead.TheVariants as read
use Rattle.std.proofs.Common.{◌≡◌, ◌≢◌, ⊎_elim, ◌↔◌, ℕ, zero, suc, ◌<◌, Bool, true, List, [], ◌∷◌, get_or, sym, refl, ◌∙◌, ap, subst, arith, Some, None, IsTrue}
use Rattle.std.proofs.{Common.{length, All, map, ◌==◌, ◌||◌, Contains}, lemmas.List.{get_or-map, Elements.{All-contains, Contains-get_or}}}
use Rattle.std.proofs.lemmas.{List.Folds.{list_any-append, list_any_at}, Option.{same_Some}, Bool.{cases_eq, cases_lt, eqb-true, eq-eqb, or_cases}}
use Rattle.std.{proofs.lemmas.Bool.Decides.{nat_tests}, specs.List.{list_any}}
use Rattle.lz_slot.specs.declared.slot.SlotRead.{SlotRead}
use Rattle.lz_judge.specs.declared.finding.Finding.{Finding, TheVariants.{Key, BadKey, Twice}}
use Rattle.lz_judge.specs.Surveys.{AreFindings, IsFinding, IsFirst, finding_key, found_keys, is_key, is_sound, open_slot, open_slots, slot_of}

-- the slot is open
abbrev pub IsOpened : SlotRead → Type 0
IsOpened (read.Member k) = Unit {0}
IsOpened read.BadKey = Unit {0}
IsOpened _ = ⊥

pub same_member : (j k : ℕ) → read.Member j ≡ read.Member k → j ≡ k
same_member j k is = cc

-- the open slots
open_one : (r : SlotRead) (n i : ℕ) → list_any (λ j. j == i) (open_slot r n) ≡ true → i ≡ n
open_one (read.Member k) n i is = grind (arith, nat_tests)
open_one read.BadKey n i is = grind (arith, nat_tests)
open_one _ n i is = absurd (cc)

one_open : (r : SlotRead) (n : ℕ) → IsOpened r → list_any (λ j. j == n) (open_slot r n) ≡ true
one_open (read.Member k) n is = grind (arith, nat_tests)
one_open read.BadKey n is = grind (arith, nat_tests)
one_open _ n is = absurd is

open_below : (says : ℕ → SlotRead) (n i : ℕ) → list_any (λ j. j == i) (open_slots says n) ≡ true → i < n
open_below says zero i is = absurd (cc)
open_below says (suc n) i is = grind (arith, nat_tests, open_below says n i, open_one, or_cases, list_any-append)

opened : (says : ℕ → SlotRead) (n i : ℕ) → i < n → IsOpened (says i) → list_any (λ j. j == i) (open_slots says n) ≡ true
opened says zero i lt is = absurd (omega (arith, lt))
opened says (suc n) i lt is = grind (arith, nat_tests, one_open, list_any-append, opened says n i, cases_eq)

-- a finding that passes a test
any_found : (p : Finding → Bool) (found : List Finding) → list_any p found ≡ true → (finding : Finding) × Contains found finding × (p finding ≡ true)
any_found p [] is = absurd (cc)
any_found p (x ∷ rest) is = ⊎_elim
    (λ here. (x, (0, omega arith, refl), here))
    (λ there. let (y, (k, lt, at), passes) = any_found p rest there in (y, (suc k, omega (arith, lt), at), passes))
    (or_cases _ _ is)

found_any : (p : Finding → Bool) (found : List Finding) (finding : Finding) → Contains found finding → p finding ≡ true → list_any p found ≡ true
found_any p found finding (k, lt, is) passes = list_any_at p found k finding lt (ap p is ∙ passes)

any_map : (i : ℕ) (found : List Finding) → list_any (λ j. j == i) (map slot_of found) ≡ list_any (λ finding. slot_of finding == i) found
any_map i [] = refl
any_map i (x ∷ rest) = ap (λ (b : Bool). (slot_of x == i) || b) (any_map i rest)

found_at : (i : ℕ) (found : List Finding) → list_any (λ j. j == i) (map slot_of found) ≡ true → (finding : Finding) × Contains found finding × (slot_of finding ≡ i)
found_at i found is = grind (arith, nat_tests, any_found, any_map, eqb-true)

at_found : (found : List Finding) (finding : Finding) → Contains found finding → list_any (λ j. j == slot_of finding) (map slot_of found) ≡ true
at_found found finding at = any_map (slot_of finding) found ∙ found_any (λ other. slot_of other == slot_of finding) found finding at (eq-eqb _ _ refl)

-- where one of these was met or found for each open slot
module _ (says : ℕ → SlotRead) (n : ℕ) (found : List Finding) (slots : map slot_of found ≡ open_slots says n) where
  pub at_slot : (i : ℕ) → i < n → IsOpened (says i) → (finding : Finding) × Contains found finding × (slot_of finding ≡ i)
  at_slot i lt is = found_at i found (ap (list_any (λ j. j == i)) slots ∙ opened says n i lt is)

  pub below_slots : (finding : Finding) → Contains found finding → slot_of finding < n
  below_slots finding at = open_below says n (slot_of finding) (ap (list_any (λ j. j == slot_of finding)) (sym slots) ∙ at_found found finding at)

-- what a survey without damage says of each slot
module _ (says : ℕ → SlotRead) (n : ℕ) (found : List Finding) (findings : AreFindings says n found) where
  pub finding_of : (i : ℕ) → i < n → IsOpened (says i) → (finding : Finding) × Contains found finding × (slot_of finding ≡ i)
  finding_of i lt is = at_slot says n found findings.slots i lt is

  pub found_below : (finding : Finding) → Contains found finding → slot_of finding < n
  found_below finding at = below_slots says n found findings.slots finding at

  -- a key that a slot holds is told by a finding
  pub key_told : (i k : ℕ) → i < n → says i ≡ read.Member k → (first : ℕ) × Contains found (Key first k)
  key_told i k lt is =
      let (finding, at, here) = finding_of i lt (some i k is) in
      told i is (λ first less one.
      let (finding, there, place) = finding_of first (omega (arith, less, lt)) (some first k one.holds) in
      told first one.holds (λ lower less lowest. absurd (one.lowest lower less lowest.holds)) finding there (All-contains (IsFinding says) found finding findings.each there) place)
      finding at (All-contains (IsFinding says) found finding findings.each at) here
    where
      some : (i k : ℕ) → says i ≡ read.Member k → IsOpened (says i)
      some i k is = subst IsOpened (sym is) tt

      -- the finding of a slot with the key tells it, or that a slot below holds it first
      told : (i : ℕ) → says i ≡ read.Member k → ((first : ℕ) → first < i → IsFirst says first k → (first : ℕ) × Contains found (Key first k)) → (finding : Finding) → Contains found finding → IsFinding says finding
          → slot_of finding ≡ i → (first : ℕ) × Contains found (Key first k)
      told i is below (Key j q) at here same = let key : q ≡ k = same_member q k (sym here.holds ∙ ap says same ∙ is) in (j, subst (λ (p : ℕ). Contains found (Key j p)) key at)
      told i is below (BadKey j) at here same = absurd (let e : read.BadKey ≡ read.Member k = sym here ∙ ap says same ∙ is in cc)
      told i is below (Twice j first) at (less, (q, holds, one)) same = grind (arith, same_member)

  -- the finding of the table that has this key
  pub found_again : (k i : ℕ) (finding : Finding) → says n ≡ read.Member k → i < length found → finding ≡ get_or found i finding → get_or (map finding_key found) i None ≡ Some k → IsFinding says (Twice n (slot_of finding))
  found_again k i finding is lt at key = grind (arith, nat_tests, get_or-map, same_Some, found_below)

  -- a key that none has
  pub found_first : (k : ℕ) → says n ≡ read.Member k → ((i : ℕ) → get_or (map finding_key found) i None ≢ Some k) → IsFirst says n k
  found_first k is none = record {
    holds = is;
    lowest = λ j low there.
        let (first, (i, lt, at)) = key_told j k low there in
        none i (get_or-map finding_key found i (Key first k) None lt ∙ ap finding_key at);
  }

  module _ (sound : All (λ f. IsTrue (is_sound f)) found) where
    -- each open slot holds a key of its own
    pub first_of : (i : ℕ) → i < n → IsOpened (says i) → (k : ℕ) × Contains found (Key i k) × IsFirst says i k
    first_of i lt is =
        let (finding, at, here) = finding_of i lt is in
        sound_first finding at (All-contains (λ f. IsTrue (is_sound f)) found finding sound at) (All-contains (IsFinding says) found finding findings.each at) here
      where
        sound_first : (finding : Finding) → Contains found finding → IsTrue (is_sound finding) → IsFinding says finding → slot_of finding ≡ i → (k : ℕ) × Contains found (Key i k) × IsFirst says i k
        sound_first (Key j k) at is first here = (k, subst (λ (q : ℕ). Contains found (Key q k)) here at, subst (λ (q : ℕ). IsFirst says q k) here first)
        sound_first _ at is first here = absurd (cc)

    pub no_bad_key : (i : ℕ) → i < n → says i ≢ read.BadKey
    no_bad_key i lt bad = grind (arith, first_of)

    pub no_key_twice : (i j k : ℕ) → i < n → j < n → says i ≡ read.Member k → says j ≡ read.Member k → i ≡ j
    no_key_twice i j k lt lt' one other = grind (arith, nat_tests, cases_lt, first_of, same_member)

    pub set_found : (k : ℕ) → IsTrue (found_keys found k) ↔ ((i : ℕ) × (i < n) × (says i ≡ read.Member k))
    set_found k = (holds, has)
      where
        key_at : (finding : Finding) → Contains found finding → IsFinding says finding → is_key k finding ≡ true → (i : ℕ) × (i < n) × (says i ≡ read.Member k)
        key_at (Key i q) at is here = (i, found_below (Key i q) at, is.holds ∙ ap (λ (x : ℕ). read.Member x) (eqb-true q k here))
        key_at _ at is here = absurd (cc)

        holds : IsTrue (found_keys found k) → (i : ℕ) × (i < n) × (says i ≡ read.Member k)
        holds is = let (finding, at, here) = any_found (is_key k) found is in key_at finding at (All-contains (IsFinding says) found finding findings.each at) here

        has : (i : ℕ) × (i < n) × (says i ≡ read.Member k) → IsTrue (found_keys found k)
        has (i, lt, is) =
            let (q, at, first) = first_of i lt (subst IsOpened (sym is) tt) in
            found_any (is_key k) found (Key i q) at (eq-eqb q k (same_member q k (sym first.holds ∙ is)))

  -- where no key stands twice, and each open slot has a key, there is no damage
  pub sound_where : ((i : ℕ) → i < n → says i ≢ read.BadKey) → ((i j k : ℕ) → i < n → j < n → says i ≡ read.Member k → says j ≡ read.Member k → i ≡ j) → All (λ f. IsTrue (is_sound f)) found
  sound_where no_bad no_twice = λ p d lt. sound_one (get_or found p d) (Contains-get_or found p d lt) (findings.each p d lt)
    where
      sound_one : (finding : Finding) → Contains found finding → IsFinding says finding → IsTrue (is_sound finding)
      sound_one (Key i k) at is = refl
      sound_one (BadKey i) at is = absurd (no_bad i (found_below (BadKey i) at) is)
      sound_one (Twice i first) at is =
          let lt = found_below (Twice i first) at in
          let e = no_twice first i is.1.0 (omega (arith, is.0, lt)) lt is.1.2.holds is.1.1 in
          absurd (omega (arith, e, is.0))

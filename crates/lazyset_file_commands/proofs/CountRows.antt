-- Worked rows: which counts aren't shown of a file of format 2 with three slots that holds a set of one key.
use Rattle.std.proofs.{Common.{◌≡◌, ℕ, ◌-◌, ◌≤◌, List, [], ◌∷◌, ◌++◌, codes, get_or, sym, ap, ◌∙◌, subst, arith}, lemmas.Map.Made.{length-le_from_is_member}}
use Rattle.std.specs.{Cmp.{nat_eq_equiv}, Fmt.{digits}}
use Rattle.lz_slot.specs.{Bytes.{Holds, format_of}, Sets.{HasMembers, Keys}, declared.format.Format.{Format, TheVariants.{Two, Three}}}
use Rattle.lz_slot.proofs.Sets.{members_among}
use Rattle.lz_judge.specs.{Surveys.{IsSurveyed}, declared.finding.Survey.{Survey}}
use Rattle.lazyset_file_commands.specs.{Checks.{shown_text}, Counts.{lines_of_counts}, ShownCounts.{CountsAreOfSet}, declared.shown.Shown.TheVariants.{Counts}}

-- the text of these counts, where the file is good
abbrev good : Format → ℕ → ℕ → ℕ → List ℕ
good F slots members free = lines_of_counts F slots members free ++ (codes "good" ++ 10 ∷ [])

-- a set has one size
pub no_larger : (S : Keys) (n m : ℕ) → HasMembers S n → HasMembers S m → n ≤ m
no_larger S n m one other =
    let within = length-le_from_is_member nat_eq_equiv one.keys other.keys one.distinct
    (λ q is. sym (members_among other.keys q) ∙ sym (other.all q) ∙ one.all q ∙ members_among one.keys q ∙ is) in
    let a = one.count in
    let b = other.count in
    omega (arith, within, a, b)

module _ (says : CountsAreOfSet) (t : List ℕ) (survey : Survey) (surveyed : IsSurveyed t survey) (two : format_of t ≡ Two) (S : Keys) (holds : Holds t 3 S) (one : HasMembers S 1) where
  shown : shown_text Counts survey ≡ good Two 3 1 2
  shown =
      let (m, size, text) = says t survey surveyed 3 S holds in
      let more = no_larger S m 1 size one in
      let less = no_larger S 1 m one size in
      let is : m ≡ 1 = omega (arith, more, less) in
      subst (λ (n : ℕ). shown_text Counts survey ≡ good Two 3 n (3 - n)) is (subst (λ (F : Format). shown_text Counts survey ≡ good F 3 m (3 - m)) two text)

  -- two members, or none
  two_members : shown_text Counts survey ≡ good Two 3 2 1 → ⊥
  unfolding digits
  two_members told = let byte : ◌≡◌ {A = ℕ} 49 50 = ap (λ (l : List ℕ). get_or l 25 0) (sym shown ∙ told) in omega (arith, byte)

  no_members : shown_text Counts survey ≡ good Two 3 0 3 → ⊥
  unfolding digits
  no_members told = let byte : ◌≡◌ {A = ℕ} 49 48 = ap (λ (l : List ℕ). get_or l 25 0) (sym shown ∙ told) in omega (arith, byte)

  -- a free slot less, or more
  one_free : shown_text Counts survey ≡ good Two 3 1 1 → ⊥
  unfolding digits
  one_free told = let byte : ◌≡◌ {A = ℕ} 50 49 = ap (λ (l : List ℕ). get_or l 32 0) (sym shown ∙ told) in omega (arith, byte)

  all_free : shown_text Counts survey ≡ good Two 3 1 3 → ⊥
  unfolding digits
  all_free told = let byte : ◌≡◌ {A = ℕ} 50 51 = ap (λ (l : List ℕ). get_or l 32 0) (sym shown ∙ told) in omega (arith, byte)

  -- other slots, or another format
  four_slots : shown_text Counts survey ≡ good Two 4 1 3 → ⊥
  unfolding digits
  four_slots told = let byte : ◌≡◌ {A = ℕ} 51 52 = ap (λ (l : List ℕ). get_or l 15 0) (sym shown ∙ told) in omega (arith, byte)

  another_format : shown_text Counts survey ≡ good Three 3 1 2 → ⊥
  unfolding digits
  another_format told = let byte : ◌≡◌ {A = ℕ} 50 51 = ap (λ (l : List ℕ). get_or l 7 0) (sym shown ∙ told) in omega (arith, byte)

  -- and that it is damaged
  damaged : shown_text Counts survey ≡ lines_of_counts Two 3 1 2 ++ (codes "damaged" ++ 10 ∷ []) → ⊥
  unfolding digits
  damaged told = let byte : ◌≡◌ {A = ℕ} 103 100 = ap (λ (l : List ℕ). get_or l 34 0) (sym shown ∙ told) in omega (arith, byte)

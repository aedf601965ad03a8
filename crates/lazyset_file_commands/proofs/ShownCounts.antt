-- The counts that are shown of a file are those of the set that it holds.
use Rattle.lz_judge.specs.declared.finding.Survey.TheVariants as survey
use Rattle.std.proofs.{Common.{◌≡◌, ℕ, ◌-◌, true, false, cond, List, [], ◌∷◌, ◌++◌, length, IsTrue, refl, sym, ap, subst, ◌∙◌, arith}, lemmas.List.{length-map}}
use Rattle.std.{proofs.lemmas.List.{Elements.{All-head, All-tail}, Sums.{sum_by-cons}}, specs.Prelude.{All, count_by}}
use Rattle.lz_slot.specs.{Bytes.{Holds, held, slot_at}, Sets.{HasMembers, Keys}}
use Rattle.lz_judge.specs.{Surveys.{AreFindings, is_good, is_sound, slot_of}, declared.finding.Finding.{Finding, TheVariants.{Key, BadKey, Twice}}}
use Rattle.lz_judge.proofs.Surveys.SlotFinding.{sound_where}
use Rattle.lazyset_file_commands.specs.{Checks.{end_text}, Counts.{lines_of_counts}, ShownCounts.{CountsAreOfSet}, declared.shown.Shown.TheVariants.{Counts}}
use Rattle.lazyset_file_commands.proofs.{HeldKeys.{keys, once, same_set, slots}, ShownLists.{same_slots}}

-- findings without damage are all counted
count_all : (found : List Finding) → All (λ f. IsTrue (is_sound f)) found → count_by is_sound found ≡ length found
count_all [] sound = refl
count_all (Key i k ∷ found) sound =
    let rest = count_all found (All-tail (λ (f : Finding). IsTrue (is_sound f)) (Key i k) found sound) in sum_by-cons (λ y. cond (is_sound y) 1 0) (Key i k) found ∙ omega (arith, rest)
count_all (BadKey i ∷ found) sound = let bad : IsTrue (is_sound (BadKey i)) = All-head (λ (f : Finding). IsTrue (is_sound f)) (BadKey i) found sound in absurd cc
count_all (Twice i first ∷ found) sound = let bad : IsTrue (is_sound (Twice i first)) = All-head (λ (f : Finding). IsTrue (is_sound f)) (Twice i first) found sound in absurd cc

module _ (t : List ℕ) (N : ℕ) (S : Keys) (holds : Holds t N S) where
  size : HasMembers S (length (keys t N))
  size = record { keys = keys t N; count = refl; distinct = once t N S holds; all = same_set t N S holds }

  -- there is a finding for each key
  found_all : (found : List Finding) → AreFindings (slot_at t) N found → length found ≡ length (keys t N)
  found_all found findings =
      sym (length-map found slot_of) ∙ ap length (findings.slots ∙ sym (slots t N holds.no_bad_key))
      ∙ length-map (held t N) (λ (node : ℕ × ℕ). node.1) ∙ sym (length-map (held t N) (λ (node : ℕ × ℕ). node.0))

pub counts_are_of_set : CountsAreOfSet
counts_are_of_set t (survey.Refused fault) surveyed N S holds = absurd (let never : false ≡ true = surveyed.good.1 (N, S, holds) in cc)
counts_are_of_set t (survey.Found header found) surveyed N S holds =
    let good : is_good (survey.Found header found) ≡ true = surveyed.good.1 (N, S, holds) in
    let same : N ≡ header.slots = same_slots t header.slots N S surveyed.told.0 holds in
    let findings : AreFindings (slot_at t) N found.items = subst (λ (n : ℕ). AreFindings (slot_at t) n found.items) (sym same) surveyed.told.2 in
    let all : length found.items ≡ length (keys t N) = found_all t N S holds found.items findings in
    let sound = sound_where (slot_at t) N found.items findings holds.no_bad_key holds.no_key_twice in
    let members : count_by is_sound found.items ≡ length (keys t N) = count_all found.items sound ∙ all in (
      length (keys t N),
      size t N S holds,
      λ i. lines_of_counts (surveyed.told.1 i) (sym same i) (members i) (sym same i - all i) ++ end_text Counts (good i),
    )

-- A survey without damage is one of a file that holds a set.
use Rattle.std.proofs.Common.{◌≡◌, ◌↔◌, ℕ, ◌+◌, ◌*◌, ◌≤◌, List, ◌∷◌, length, take, sym, ◌∙◌, ap, subst, arith, Ok, Err, IsTrue}
use Rattle.std.{proofs.lemmas.List.Sums.{AllPass-from_list_all, list_all-from_AllPass}, specs.List.{list_all}}
use Rattle.lz_slot.specs.{Limits.{most_slots_of}, declared.header.HeaderFault.{HeaderFault}, Sets.{Keys}}
use Rattle.lz_slot.{specs.Bytes.{Holds, format_of, header_read, header_body, open_byte, slot_at}, proofs.Files.HeadBytes.{head_alone}}
use Rattle.lz_slot.proofs.Files.ExactBytes.{header_counts, header_reads_back}
use Rattle.lz_judge.specs.{declared.finding.{Finding.{Finding}, Survey.TheVariants.{Refused}}, Surveys.{AreFindings, IsSurveyed, found_keys, is_sound}}
use Rattle.lz_judge.proofs.Surveys.SlotFinding.{no_bad_key, no_key_twice, set_found, sound_where}

-- a file that holds a set has no fault of the head
pub held_head : (t : List ℕ) (N : ℕ) (S : Keys) → Holds t N S → header_read t (length t) ≡ Ok N
held_head t N S holds =
    head_alone t (length t) ∙ ap (λ (l : List ℕ). header_read l (length t)) holds.head ∙ ap (header_read (open_byte ∷ header_body (format_of t) N)) holds.size
    ∙ (header_reads_back (format_of t) N holds.count.0 holds.count.1).0

-- a file whose head has a fault
pub refused_surveyed : (t : List ℕ) (fault : HeaderFault) → header_read t (length t) ≡ Err fault → IsSurveyed t (Refused fault)
refused_surveyed t fault is = record { told = is; good = (λ never. absurd (cc), λ (N, S, holds). absurd (let e : Err fault ≡ Ok N = sym is ∙ held_head t N S holds in cc)) }

-- a survey of a file with its head
pub sound_holds : (t : List ℕ) (N : ℕ) (found : List Finding) → take 16 t ≡ open_byte ∷ header_body (format_of t) N → header_read t (length t) ≡ Ok N → AreFindings (slot_at t) N found
    → IsTrue (list_all is_sound found) ↔ ((n : ℕ) × (S : Keys) × Holds t n S)
sound_holds t N found bytes head findings = (holds, sound)
  where
    range : (1 ≤ N) × (N ≤ most_slots_of (format_of t)) × (length t ≡ 16 + 16 * N)
    range = header_counts t (length t) N head

    holds : IsTrue (list_all is_sound found) → (n : ℕ) × (S : Keys) × Holds t n S
    holds all = let sound = AllPass-from_list_all is_sound found all in (
      N,
      found_keys found,
      record {
        count = (range.0, range.1);
        size = range.2;
        head = bytes;
        no_bad_key = no_bad_key (slot_at t) N found findings sound;
        no_key_twice = no_key_twice (slot_at t) N found findings sound;
        set = set_found (slot_at t) N found findings sound;
      },
    )

    sound : (n : ℕ) × (S : Keys) × Holds t n S → IsTrue (list_all is_sound found)
    sound (n, S, held) =
        let same : n ≡ N = omega (arith, held.size, range.2) in
        let held' = subst (λ (m : ℕ). Holds t m S) same held in
        list_all-from_AllPass is_sound found (sound_where (slot_at t) N found findings held'.no_bad_key held'.no_key_twice)

-- Worked rows: what a making that wasn't acknowledged leaves, and what it must not.
use Rattle.std.proofs.Common.{◌≡◌, ⊎_elim, inl, inr, ℕ, suc, List, [], ◌∷◌, length, get_or, replicate, IsTrue, refl, sym, ◌∙◌, ap, arith}
use Rattle.std.proofs.lemmas.List.{get_or-take}
use Rattle.lz_slot.specs.{Sets.{Keys}, Bytes.{Holds, IsMade, format_of, open_byte}, declared.format.Format.{Format, TheVariants.{Two, Three}}}
use Rattle.lz_vault.specs.Makes.{IsUnmadeOrHolds}

-- nothing, or an open gate with less than a head after it, is unmade, whatever was to be made
nothing_yet : (format : Format) (n : ℕ) (S : Keys) → IsUnmadeOrHolds format n S []
nothing_yet format n S = inl (λ made. omega (arith, made.0))

lone_gate : (format : Format) (n : ℕ) (S : Keys) → IsUnmadeOrHolds format n S (open_byte ∷ replicate 14 0)
lone_gate format n S = inl (λ made. let long : ◌≡◌ (length (open_byte ∷ replicate 14 0)) 15 = refl in omega (arith, made.0, long))

-- a file of n slots that holds a set
module _ (t : List ℕ) (n : ℕ) (S : Keys) (holds : Holds t n S) where
  made : IsMade t
  made = (omega (arith, holds.size), sym (get_or-take 16 t 0 0 (omega arith)) ∙ ap (λ (head : List ℕ). get_or head 0 0) holds.head)

  -- it is left of a making of such a file
  all_of_it : IsUnmadeOrHolds (format_of t) n S t
  all_of_it = inr (holds, refl)

  -- not of one in another format, with one slot less or more, or of a set that lacks one of its keys
  not_of_another_format : format_of t ≡ Two → IsUnmadeOrHolds Three n S t → ⊥
  not_of_another_format is = ⊎_elim (λ unmade. unmade made) (λ file. let other : ◌≡◌ {A = Format} Two Three = sym is ∙ file.1 in absurd cc)

  not_of_more_slots : (format : Format) → IsUnmadeOrHolds format (suc n) S t → ⊥
  not_of_more_slots format = ⊎_elim (λ unmade. unmade made) (λ file. omega (arith, holds.size, file.0.size))

  not_of_fewer_keys : (format : Format) (T : Keys) (k : ℕ) → IsTrue (S k) → ¬ IsTrue (T k) → IsUnmadeOrHolds format n T t → ⊥
  not_of_fewer_keys format T k has lacks = ⊎_elim (λ unmade. unmade made) (λ file. lacks ((file.0.set k).1 ((holds.set k).0 has)))

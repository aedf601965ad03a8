-- What an open found is a lawful trace, whose members are the keys found, each settled.
use Rattle.std.proofs.{Common.{◌≡◌, inl, inr, ℕ, suc, true, false, [], ◌∷◌, refl, sym, ◌∙◌, arith}, lemmas.Bool.{cases_Bool, Decides.{nat_tests}}}
use mathlib.Core.Bool.{false≢true}
use Rattle.lz_list.specs.Traces.{Chain, has_key, has_slot, on, chain, member, linking, is_settled, halt_word, Lawful, SettledYes, opening, IsFound}
use Rattle.lz_list.proofs.Traces.{Absence.{has_insert, begins_itself}, NodeBits.{on_insert_other}}

module _ (buckets : ℕ) where
  none_key : (k b : ℕ) (found : Chain) → has_key k found ≡ false → has_key k (chain buckets b (opening buckets found)) ≡ false
  none_key k b [] none = refl
  none_key k b (f ∷ found) none = grind (arith, has_insert k f.0 f.1 (chain buckets b (opening buckets found)), none_key k b found)

  none_slot : (s b : ℕ) (found : Chain) → has_slot s found ≡ false → on 0 (chain buckets b (opening buckets found)) (suc s) ≡ false
  none_slot s b [] none = grind arith
  none_slot s b (f ∷ found) none = elim (cases_Bool (on 0 (chain buckets b (opening buckets (f ∷ found))) (suc s))) [
    | inl there ↦ absurd (false≢true (sym (none_slot s b found (grind (arith, nat_tests))) ∙ grind (arith, nat_tests, on_insert_other f.0 f.1 0 (suc s) (chain buckets b (opening buckets found)))))
    | inr off ↦ off
  ]

  pub opening_members : (k : ℕ) (found : Chain) → member k (opening buckets found) ≡ has_key k found
  opening_members k [] = refl
  opening_members k (f ∷ found) = grind (arith, opening_members k found)

  pub opening_lawful : (slots : ℕ) (found : Chain) → IsFound slots found → Lawful buckets slots (opening buckets found)
  opening_lawful slots [] h = tt
  opening_lawful slots (f ∷ found) h = grind (arith, opening_lawful slots found h.3, none_slot, opening_members, none_key)

  pub opening_unhalted : (found : Chain) → halt_word (opening buckets found) ≡ 0
  opening_unhalted [] = refl
  opening_unhalted (f ∷ found) = opening_unhalted found

  is_settled_there : (k : ℕ) (found : Chain) → has_key k found ≡ true → is_settled (linking k (opening buckets found)) (opening buckets found) ≡ true
  is_settled_there k [] has = absurd (false≢true has)
  is_settled_there k (f ∷ found) has = grind (arith, is_settled_there k found)

  pub opening_settled : (k : ℕ) (found : Chain) → has_key k found ≡ true → SettledYes (opening buckets found) (opening buckets found) k
  opening_settled k found has = grind (arith, begins_itself, opening_members, is_settled_there)

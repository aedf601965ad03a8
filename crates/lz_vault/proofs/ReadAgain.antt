-- What is read again of two files, of which one was renewed into the other.
use Rattle.std.proofs.Common.{◌≡◌, ⊎_elim, ℕ, zero, suc, ◌+◌, ◌≤◌, ◌<◌, List, [], ◌∷◌, ◌++◌, length, get_or, take, refl, sym, ◌∙◌, ap, arith}
use Rattle.std.{proofs.lemmas.{Bool.{cases_lt}, List.{append-nil, map-append, take_all, take_more}}, specs.Prelude.{map}}
use Rattle.lz_slot.specs.{Rooms.{largest_of}, declared.{format.Format.{Format}, slot.SlotRead.{SlotRead, TheVariants.{Closed, Member}}}}
use Rattle.lz_slot.{specs.Bytes.{held, held_key, slot_at}, proofs.Files.ExactBytes.{slot_reads_back}}
use Rattle.lz_disk.specs.Images.{Medium}
use Rattle.lz_vault.{specs.{Makes.{IsRenewed}, Renewals.{AreHeldBy}}, proofs.{FilledTexts.{text_blank, text_open}, MakingTexts.{zeros_closed}}}

-- a text's keys are one list
pub one_list : (t : List ℕ) (ks js : List ℕ) → AreHeldBy t ks → AreHeldBy t js → ks ≡ js
one_list t ks js one other = grind arith

-- the keys of a new file are those from which it was made, in their order
module _ (disk : Medium) (format : Format) (n : ℕ) (ks : List ℕ) (is : IsRenewed disk format n ks) (few : length ks ≤ n) (fit : (i : ℕ) → i < length ks → get_or ks i 0 ≤ largest_of format) where
  abbrev keys_below : ℕ → List ℕ
  keys_below i = map (λ (node : ℕ × ℕ). node.0) (held disk.seen i)

  says_key : (i : ℕ) → i < length ks → slot_at disk.seen i ≡ Member (get_or ks i 0)
  says_key i lt = grind (arith, text_open, slot_reads_back, get_or)

  says_none : (i : ℕ) → i < n → length ks ≤ i → slot_at disk.seen i ≡ Closed
  says_none i lt le = grind (arith, text_blank, zeros_closed)

  key_of_slot : (i : ℕ) (said : SlotRead) → slot_at disk.seen i ≡ said → keys_below (suc i) ≡ keys_below i ++ map (λ (node : ℕ × ℕ). node.0) (held_key said i)
  key_of_slot i said says = map-append (λ (node : ℕ × ℕ). node.0) (held disk.seen i) (held_key (slot_at disk.seen i) i) ∙ ap (λ (s : SlotRead). keys_below i ++ map (λ (node : ℕ × ℕ). node.0) (held_key s i)) says

  first_keys : (i : ℕ) → i ≤ n → keys_below i ≡ take i ks
  first_keys zero le = refl
  first_keys (suc i) le = ⊎_elim
      (λ within.
      let next : i + 1 ≡ suc i = omega arith in
      key_of_slot i (Member (get_or ks i 0)) (says_key i within)
      ∙ ap (λ (l : List ℕ). l ++ get_or ks i 0 ∷ []) (first_keys i (omega (arith, le)))
      ∙ sym (take_more ks i 0 within) ∙ ap (λ (m : ℕ). take m ks) next)
      (λ past.
      key_of_slot i Closed (says_none i (omega (arith, le)) past) ∙ append-nil (keys_below i)
      ∙ first_keys i (omega (arith, le)) ∙ take_all i ks past ∙ sym (take_all (suc i) ks (omega (arith, past))))
      (cases_lt i (length ks))

  pub are_its_keys : AreHeldBy disk.seen ks
  are_its_keys = (n, is.held, sym (first_keys n (omega arith) ∙ take_all n ks few))

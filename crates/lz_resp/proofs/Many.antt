-- Texts of one kind, one after another: arguments, and numbers.
use Rattle.std.proofs.Common.{◌≡◌, ℕ, zero, suc, Bool, true, List, [], ◌∷◌, ◌++◌, length, Some, Ok, refl, sym, ap, subst, ◌∙◌, arith, append_assoc}
use Rattle.std.{proofs.lemmas.Bool.Decides.{nat_tests}, specs.List.{flat_map, list_all}}
use Rattle.lz_resp.{specs.Reading.{Front, and_then}, proofs.LongerTexts.{given, same_read, then_value}}

pub record AreMany {A : Type 0} (text_of : A → List ℕ) (fits : A → Bool) (n : ℕ) (text : List ℕ) (xs : List A) (rest : List ℕ) : Type 0 where
  pub whole : text ≡ flat_map text_of xs ++ rest
  pub count : length xs ≡ n
  pub each : list_all fits xs ≡ true

-- where one is read as it is spelled, so are several
module _ {A : Type 0} (text_of : A → List ℕ) (fits : A → Bool) (read : List ℕ → Front A) (many : ℕ → List ℕ → Front (List A)) (none : (text : List ℕ) → many 0 text ≡ given [] text)
    (next : (n : ℕ) (text : List ℕ) → many (suc n) text ≡ and_then (read text) (λ x rest. and_then (many n rest) (λ xs after. Ok (Some (x ∷ xs, after))))) where
  pub many_read : ((x : A) (rest : List ℕ) → fits x ≡ true → read (text_of x ++ rest) ≡ given x rest) → (xs : List A) (rest : List ℕ) → list_all fits xs ≡ true
      → many (length xs) (flat_map text_of xs ++ rest) ≡ given xs rest
  many_read one [] rest each = none rest
  many_read one (x ∷ xs) rest each =
      let both : (fits x ≡ true) × (list_all fits xs ≡ true) = (grind (arith, nat_tests), grind (arith, nat_tests)) in
      next (length xs) ((text_of x ++ flat_map text_of xs) ++ rest)
      ∙ ap (λ r. and_then r (λ x rest. and_then (many (length xs) rest) (λ xs after. Ok (Some (x ∷ xs, after)))))
      (ap read (append_assoc (text_of x) (flat_map text_of xs) rest) ∙ one x (flat_map text_of xs ++ rest) both.0)
      ∙ ap (λ r. and_then r (λ xs after. Ok (Some (x ∷ xs, after)))) (many_read one xs rest both.1)

  pub many_spelled : ((text : List ℕ) (x : A) (rest : List ℕ) → read text ≡ given x rest → (fits x ≡ true) × (text ≡ text_of x ++ rest)) → (n : ℕ) (text : List ℕ) (xs : List A) (rest : List ℕ)
      → many n text ≡ given xs rest → AreMany text_of fits n text xs rest
  many_spelled one zero text xs rest h =
      let same = same_read [] xs text rest (sym (none text) ∙ h) in
      subst (λ (l : List A). AreMany text_of fits zero text l rest) same.0 (record { whole = same.1; count = refl; each = refl })
  many_spelled one (suc n) text xs rest h =
      let t = then_value (read text) (λ x rest. and_then (many n rest) (λ xs after. Ok (Some (x ∷ xs, after)))) xs rest (sym (next n text) ∙ h) in
      let u = then_value (many n t.rest) (λ xs after. Ok (Some (t.x ∷ xs, after))) xs rest t.second in
      let first = one text t.x t.rest t.first in
      let others = many_spelled one n t.rest u.x u.rest u.first in
      let same = same_read (t.x ∷ u.x) xs u.rest rest u.second in
      subst (λ (l : List A). AreMany text_of fits (suc n) text l rest) same.0
      (record {
        whole = grind (arith, first.1, others.whole, same.1, append_assoc (text_of t.x) (flat_map text_of u.x) rest);
        count = omega (arith, others.count);
        each = rw first.0 others.each;
      })

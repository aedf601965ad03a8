-- Texts that are cut at a byte.
use Rattle.std.proofs.Common.{◌≡◌, ◌≢◌, ℕ, ◌+◌, ◌<◌, ◌≤◌, List, [], ◌∷◌, ◌++◌, length, take, drop, get_or, true, false, nat_eq, Option, Some, None, refl, sym}
use Rattle.std.proofs.{Common.{ap, ◌∙◌, arith}, lemmas.List.{take-append-drop, drop_more, get_or-take, get_or_default, take_all, length-take}}
use Rattle.std.{proofs.lemmas.{List.Folds.{list_any_none}, Bool.{eq-eqb, eqb-true, cond_both, Decides.{nat_tests}}}, specs.Prelude.{option_map}}
use Rattle.std.specs.List.{list_any}
use Rattle.memchr.specs.Find.{IsFirstByte, Nowhere, Passes, is_byte}
use Rattle.lz_slot.specs.Texts.{parted}

-- the byte doesn't stand in the text
abbrev pub Lacks : ℕ → List ℕ → Type 0
Lacks c text = list_any (nat_eq c) text ≡ false

unlike : (c x : ℕ) → x ≢ c → nat_eq c x ≡ false
unlike c x h = grind (arith, nat_tests)

lacks_below : (c : ℕ) (r : List ℕ) (e : ℕ) → e ≤ length r → Nowhere (Passes (is_byte c) r) 0 e → Lacks c (take e r)
lacks_below c r e inside none = list_any_none (nat_eq c) (take e r) (λ k d h.
    let low : k < e = omega (arith, length-take e r) in
    unlike c (get_or (take e r) k d) (λ is.
    none k (omega arith) low (eq-eqb _ _ (get_or_default r k 0 d (omega arith) ∙ sym (get_or-take e r k d low) ∙ is))))

pub lacks_all : (c : ℕ) (r : List ℕ) → IsFirstByte (is_byte c) r None → Lacks c r
lacks_all c r none = ap (list_any (nat_eq c)) (sym (take_all (length r) r (omega arith))) ∙ lacks_below c r (length r) (omega arith) none

pub lacks_first : (c : ℕ) (r : List ℕ) (e : ℕ) → IsFirstByte (is_byte c) r (Some e) → Lacks c (take e r)
lacks_first c r e first = lacks_below c r e (omega (arith, first.0.high)) first.0.before

-- a text is the part before place e, the byte there and the rest
pub cut_at : (c : ℕ) (r : List ℕ) (e : ℕ) → IsFirstByte (is_byte c) r (Some e) → r ≡ take e r ++ c ∷ drop (e + 1) r
cut_at c r e first = grind (arith, get_or, eqb-true, drop_more, take-append-drop)

pub lacks_more : (c b : ℕ) (t : List ℕ) → Lacks c (b ∷ t) → (nat_eq c b ≡ false) × Lacks c t
lacks_more c b t h = (grind (arith, nat_tests), grind (arith, nat_tests))

-- where two texts lack a byte, it ends both at one place
pub first_cut : (c : ℕ) (t u rest others : List ℕ) → Lacks c t → Lacks c u → t ++ c ∷ rest ≡ u ++ c ∷ others → t ≡ u
first_cut c [] [] rest others p q e = refl
first_cut c [] (d ∷ u) rest others p q e = absurd (let same : c ≡ d = cc in let none = (lacks_more c d u q).0 in grind (arith, nat_tests))
first_cut c (b ∷ t) [] rest others p q e = absurd (let same : c ≡ b = cc in let none = (lacks_more c b t p).0 in grind (arith, nat_tests))
first_cut c (b ∷ t) (d ∷ u) rest others p q e = let same = first_cut c t u rest others (lacks_more c b t p).1 (lacks_more c d u q).1 (cc) in cc (same)

pub stands : (c : ℕ) (t rest : List ℕ) → list_any (nat_eq c) (t ++ c ∷ rest) ≡ true
stands c [] rest = grind (arith, nat_tests)
stands c (b ∷ t) rest = let h = stands c t rest in grind (arith, nat_tests)

same_eq : (c : ℕ) → nat_eq c c ≡ true
same_eq c = grind (arith, nat_tests)

pub parted_clear : (c : ℕ) (t rest : List ℕ) → Lacks c t → parted c (t ++ c ∷ rest) ≡ Some (t, rest)
parted_clear c [] rest h = rw (same_eq c) refl
parted_clear c (b ∷ t) rest h = let both = lacks_more c b t h in rw (both.0, parted_clear c t rest both.1) refl

pub parted_none : (c : ℕ) (t : List ℕ) → Lacks c t → parted c t ≡ None
parted_none c [] h = refl
parted_none c (b ∷ t) h = let both = lacks_more c b t h in rw (both.0, parted_none c t both.1) refl

pub parted_at : (c : ℕ) (r : List ℕ) (e : ℕ) → IsFirstByte (is_byte c) r (Some e) → parted c r ≡ Some (take e r, drop (e + 1) r)
parted_at c r e first = ap (parted c) (cut_at c r e first) ∙ parted_clear c (take e r) (drop (e + 1) r) (lacks_first c r e first)

-- the parts of a text are its own
abbrev pub AreParts : ℕ → List ℕ → Option (List ℕ × List ℕ) → Type 0
AreParts c t None = Unit {0}
AreParts c t (Some p) = t ≡ p.0 ++ c ∷ p.1

parts_more : (c b : ℕ) (t : List ℕ) (p : Option (List ℕ × List ℕ)) → AreParts c t p → AreParts c (b ∷ t) (option_map (λ p. (b ∷ p.0, p.1)) p)
parts_more c b t None h = tt
parts_more c b t (Some p) h = ap (λ (x : List ℕ). b ∷ x) h

pub parted_whole : (c : ℕ) (t : List ℕ) → AreParts c t (parted c t)
parted_whole c [] = tt
parted_whole c (b ∷ t) = cond_both (nat_eq c b) (Some ([], t)) (option_map (λ p. (b ∷ p.0, p.1)) (parted c t)) (AreParts c (b ∷ t))
    (λ same. let is : b ≡ c = grind (arith, nat_tests) in ap (λ (x : ℕ). x ∷ t) is) (λ other. parts_more c b t (parted c t) (parted_whole c t))

-- One byte of a text is written.
use Rattle.std.proofs.Common.{◌≡◌, ◌≢◌, ◌⊎◌, ⊎_elim, inl, inr, ℕ, ◌+◌, ◌-◌, ◌≤◌, ◌<◌, true, List, [], ◌∷◌, length, take, get_or, set, refl, sym, ◌∙◌, ap, subst, arith}
use Rattle.std.proofs.lemmas.{Bool.{cases_lt, cases_eq, Decides.{nat_tests}}, List.{length-take, get_or-take, get_or_append_left, get_or-append_right, get_or-set_same, get_or-set_other}, Grind.{same_number_lists}}
use Rattle.lz_disk.proofs.Overwrites as over
use Rattle.byteorder.specs.Endian.{big_bytes}
use Rattle.lz_slot.specs.Bytes.{open_byte}
use Rattle.lz_disk.{specs.Images.{Medium, IsImage, overwritten}, proofs.Writes.{loose_outside}}
use Rattle.lz_growth.{specs.Growths.{growing_head}, proofs.CountBytes.{bytes_long}}

-- the text with one byte written
abbrev pub with_byte : List ℕ → ℕ → ℕ → List ℕ
with_byte t p v = overwritten t p (v ∷ [])

module _ (t : List ℕ) (p v : ℕ) (inside : p < length t) where
  pub byte_long : length (with_byte t p v) ≡ length t
  byte_long = over.size t p (v ∷ []) (omega arith) (omega arith)

  pub byte_there : get_or (with_byte t p v) p 0 ≡ v
  byte_there =
      let first : p - p ≡ 0 = omega arith in
      over.inside t p (v ∷ []) (omega arith) p (omega arith) (omega arith) ∙ ap (λ (i : ℕ). get_or (v ∷ []) i 0) first

  pub byte_other : (i : ℕ) → i ≢ p → get_or (with_byte t p v) i 0 ≡ get_or t i 0
  byte_other i other = ⊎_elim (over.below t p (v ∷ []) (omega arith) i) (λ le. over.above t p (v ∷ []) (omega arith) i (omega arith)) (cases_lt i p)

  -- a crash leaves the old text, or that with the new byte
  module _ (new : Medium) (bytewise : new.bytewise ≡ true) (sure : new.sure ≡ t) (loose : new.loose ≡ (p, v ∷ []) ∷ []) (short : length new.seen ≤ length t) (c : List ℕ) (image : IsImage new c) where
    long : length c ≡ length t
    long = omega (arith, image.no_shorter, image.no_longer, ap length sure)

    sure_at : (i : ℕ) → get_or new.sure i 0 ≡ get_or t i 0
    sure_at i = ap (λ (l : List ℕ). get_or l i 0) sure

    other_bytes : (i : ℕ) → i < length t → i ≢ p → get_or c i 0 ≡ get_or t i 0
    other_bytes i lt other = grind (arith, nat_tests, image.sure i, sure_at i, loose_outside p (v ∷ []) [] i, loose, ap length sure)

    that_byte : (get_or c p 0 ≡ get_or t p 0) ⊎ (get_or c p 0 ≡ v)
    that_byte = grind (arith, nat_tests, image.each bytewise p, sure_at p, loose, ap length sure)

    pub byte_or_not : (c ≡ t) ⊎ (c ≡ with_byte t p v)
    byte_or_not = ⊎_elim
        (λ old. inl (same_number_lists c t long (λ k lt. ⊎_elim
        (λ here. subst (λ (q : ℕ). get_or c q 0 ≡ get_or t q 0) (sym here) old)
        (λ other. other_bytes k (omega (arith, long)) other)
        (cases_eq k p))))
        (λ made. inr (same_number_lists c (with_byte t p v) (long ∙ sym byte_long) (λ k lt. ⊎_elim
        (λ here. subst (λ (q : ℕ). get_or c q 0 ≡ get_or (with_byte t p v) q 0) (sym here) (made ∙ sym byte_there))
        (λ other. other_bytes k (omega (arith, long)) other ∙ sym (byte_other k other))
        (cases_eq k p))))
        that_byte

-- what comes before the number in a head
abbrev before_count : List ℕ
before_count = open_byte ∷ 0x4c ∷ 0x5a ∷ 0x59 ∷ 0x53 ∷ 0x45 ∷ 0x54 ∷ 0x35 ∷ []

head_low : (N k : ℕ) → k < 8 → get_or (growing_head N) k 0 ≡ get_or before_count k 0
head_low N k lt = get_or_append_left before_count (big_bytes 8 N) 0 k lt

head_high : (N k : ℕ) → 8 ≤ k → get_or (growing_head N) k 0 ≡ get_or (big_bytes 8 N) (k - 8) 0
head_high N k le = get_or-append_right before_count (big_bytes 8 N) 8 k 0 refl le

head_long : (N : ℕ) → length (growing_head N) ≡ 16
head_long N = refl

-- a head with another byte of its number
module _ (from to : ℕ) (t : List ℕ) (i v : ℕ) (head : take 16 t ≡ growing_head from) (place : i < 8) (changed : set (big_bytes 8 from) i v ≡ big_bytes 8 to) where
  pub head_there : 16 ≤ length t
  head_there = omega (arith, length-take 16 t, ap length head, head_long from)

  was_at : (k : ℕ) → k < 16 → get_or t k 0 ≡ get_or (growing_head from) k 0
  was_at k lt = sym (get_or-take 16 t k 0 lt) ∙ ap (λ (l : List ℕ). get_or l k 0) head

  changed_at : (k : ℕ) → get_or (big_bytes 8 to) k 0 ≡ get_or (set (big_bytes 8 from) i v) k 0
  changed_at k = ap (λ (l : List ℕ). get_or l k 0) (sym changed)

  is_at : (k : ℕ) → k < 16 → get_or (with_byte t (8 + i) v) k 0 ≡ get_or (growing_head to) k 0
  is_at k lt = ⊎_elim
      (λ low. byte_other t (8 + i) v (omega (arith, head_there)) k (omega arith) ∙ was_at k lt ∙ head_low from k low ∙ sym (head_low to k low))
      (λ le. ⊎_elim
      (λ here.
      let there : k - 8 ≡ i = omega arith in
      ap (λ (q : ℕ). get_or (with_byte t (8 + i) v) q 0) here ∙ byte_there t (8 + i) v (omega (arith, head_there))
      ∙ sym (get_or-set_same (big_bytes 8 from) i v 0 (omega (arith, bytes_long from))) ∙ sym (changed_at i) ∙ ap (λ (q : ℕ). get_or (big_bytes 8 to) q 0) (sym there) ∙ sym (head_high to k le))
      (λ other.
      byte_other t (8 + i) v (omega (arith, head_there)) k other ∙ was_at k lt ∙ head_high from k le
      ∙ sym (get_or-set_other (big_bytes 8 from) i (k - 8) v 0 (omega arith)) ∙ sym (changed_at (k - 8)) ∙ sym (head_high to k le))
      (cases_eq k (8 + i)))
      (cases_lt k 8)

  pub head_changed : take 16 (with_byte t (8 + i) v) ≡ growing_head to
  head_changed =
      let long = byte_long t (8 + i) v (omega (arith, head_there)) in
      let cut = length-take 16 (with_byte t (8 + i) v) in
      same_number_lists (take 16 (with_byte t (8 + i) v)) (growing_head to) (omega (arith, cut, long, head_there, head_long to)) (λ k lt.
      let small : k < 16 = omega (arith, cut) in
      get_or-take 16 (with_byte t (8 + i) v) k 0 small ∙ is_at k small)

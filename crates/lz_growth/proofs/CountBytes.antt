-- The bytes of two numbers that differ in one of them.
use Rattle.std.proofs.Common.{◌≡◌, ◌≢◌, ⊎_elim, ℕ, zero, suc, ◌+◌, ◌*◌, ◌-◌, ◌/◌, ◌%◌, ◌^◌, ◌<◌, length, get_or, set, refl, sym, ◌∙◌, ap, subst, arith}
use Rattle.std.proofs.lemmas.{Nat.{field_of, shr-shr, pow-add}, Bool.{cases_lt, cases_eq}, List.{length-set, get_or-set_same, get_or-set_other}, Grind.{same_number_lists}}
use Rattle.std.proofs.Math.Pow.{mod-mod-pow}
use Rattle.std.specs.Int.{byte_at, bytes_high_first}
use Rattle.byteorder.specs.Endian.{big_bytes}
use Rattle.lz_growth.specs.Growths.{IsAlikeBut}

-- powers of 256 are powers of 2
pub bits_of : (j : ℕ) → 256 ^ j ≡ 2 ^ (8 * j)
bits_of zero = refl
bits_of (suc j) =
    let more : 8 * suc j ≡ 8 + 8 * j = omega arith in
    let power : 256 ^ suc j ≡ 256 * 256 ^ j = omega arith in
    power ∙ ap (λ (x : ℕ). 256 * x) (bits_of j) ∙ sym (pow-add 2 8 (8 * j)) ∙ ap (λ (x : ℕ). 2 ^ x) (sym more)

byte_is : (j n : ℕ) → byte_at j n ≡ n / 2 ^ (8 * j) % 256
byte_is zero n = omega arith
byte_is (suc j) n = ap (λ (x : ℕ). n / x % 256) (bits_of (suc j))

module _ (byte a b : ℕ) (alike : IsAlikeBut byte a b) where
  low : a % 2 ^ (8 * byte) ≡ b % 2 ^ (8 * byte)
  low = subst (λ (x : ℕ). a % x ≡ b % x) (bits_of byte) alike.0

  high : a / 2 ^ (8 * (byte + 1)) ≡ b / 2 ^ (8 * (byte + 1))
  high = subst (λ (x : ℕ). a / x ≡ b / x) (bits_of (byte + 1)) alike.1

  -- a byte below the one that may differ
  lower_from : (j : ℕ) → j < byte → (n : ℕ) → byte_at j n ≡ n % 2 ^ (8 * byte) % 2 ^ (8 + 8 * j) / 2 ^ (8 * j)
  lower_from j lt n =
      let all : 8 * (byte - (j + 1)) + (8 + 8 * j) ≡ 8 * byte = omega arith in
      let cut = mod-mod-pow n (8 * (byte - (j + 1))) (8 + 8 * j) in
      byte_is j n ∙ sym (field_of n 8 (8 * j)) ∙ ap (λ (x : ℕ). x / 2 ^ (8 * j)) (sym cut ∙ ap (λ (x : ℕ). n % 2 ^ x % 2 ^ (8 + 8 * j)) all)

  -- and one above it
  upper_from : (j : ℕ) → byte < j → (n : ℕ) → byte_at j n ≡ n / 2 ^ (8 * (byte + 1)) / 2 ^ (8 * (j - (byte + 1))) % 256
  upper_from j lt n =
      let all : 8 * (byte + 1) + 8 * (j - (byte + 1)) ≡ 8 * j = omega arith in
      byte_is j n ∙ ap (λ (x : ℕ). n / 2 ^ x % 256) (sym all) ∙ ap (λ (x : ℕ). x % 256) (sym (shr-shr n (8 * (byte + 1)) (8 * (j - (byte + 1)))))

  other_byte : (j : ℕ) → j ≢ byte → byte_at j a ≡ byte_at j b
  other_byte j other = ⊎_elim
      (λ below. lower_from j below a ∙ ap (λ (x : ℕ). x % 2 ^ (8 + 8 * j) / 2 ^ (8 * j)) low ∙ sym (lower_from j below b))
      (λ le. let above : byte < j = omega arith in upper_from j above a ∙ ap (λ (x : ℕ). x / 2 ^ (8 * (j - (byte + 1))) % 256) high ∙ sym (upper_from j above b))
      (cases_lt j byte)

-- each place of a number's bytes
high_at : (n k x j : ℕ) → k < n → j + k + 1 ≡ n → get_or (bytes_high_first n x) k 0 ≡ byte_at j x
high_at zero k x j lt is = absurd (omega arith)
high_at (suc n) zero x j lt is = let first : n ≡ j = omega arith in ap (λ (i : ℕ). byte_at i x) first
high_at (suc n) (suc k) x j lt is = high_at n k x j (omega arith) (omega arith)

pub bytes_long : (n : ℕ) → length (big_bytes 8 n) ≡ 8
bytes_long n = refl

module _ (byte a b : ℕ) (small : byte < 8) (alike : IsAlikeBut byte a b) where
  other_place : (k : ℕ) → k < 8 → k ≢ 7 - byte → get_or (big_bytes 8 a) k 0 ≡ get_or (big_bytes 8 b) k 0
  other_place k lt other =
      let at = 7 - k in
      high_at 8 k a (7 - k) lt (omega arith) ∙ other_byte byte a b alike (7 - k) (omega arith) ∙ sym (high_at 8 k b (7 - k) lt (omega arith))

  -- where one place differs, it is the only one
  pub place_found : (i : ℕ) → i < 8 → get_or (big_bytes 8 a) i 0 ≢ get_or (big_bytes 8 b) i 0 → set (big_bytes 8 a) i (get_or (big_bytes 8 b) i 0) ≡ big_bytes 8 b
  place_found i within differs = ⊎_elim
      (λ here. same_number_lists _ _ (length-set (big_bytes 8 a) i (get_or (big_bytes 8 b) i 0)) (λ k lt.
      let below : k < 8 = omega (arith, length-set (big_bytes 8 a) i (get_or (big_bytes 8 b) i 0), bytes_long a) in
      ⊎_elim
      (λ same. subst (λ (q : ℕ). get_or (set (big_bytes 8 a) i (get_or (big_bytes 8 b) i 0)) q 0 ≡ get_or (big_bytes 8 b) q 0) (sym same) (get_or-set_same (big_bytes 8 a) i (get_or (big_bytes 8 b) i 0) 0 (omega (arith, bytes_long a))))
      (λ other. get_or-set_other (big_bytes 8 a) i k (get_or (big_bytes 8 b) i 0) 0 other ∙ other_place k below (omega arith))
      (cases_eq k i)))
      (λ other. absurd (differs (other_place i within other)))
      (cases_eq i (7 - byte))

-- where all but the last place are the same
pub last_place : (a b : ℕ) → ((k : ℕ) → k < 7 → get_or (big_bytes 8 a) k 0 ≡ get_or (big_bytes 8 b) k 0) → set (big_bytes 8 a) 7 (get_or (big_bytes 8 b) 7 0) ≡ big_bytes 8 b
last_place a b same =
    same_number_lists _ _ (length-set (big_bytes 8 a) 7 (get_or (big_bytes 8 b) 7 0)) (λ k lt.
    let below : k < 8 = omega (arith, length-set (big_bytes 8 a) 7 (get_or (big_bytes 8 b) 7 0), bytes_long a) in
    ⊎_elim
    (λ here. subst (λ (q : ℕ). get_or (set (big_bytes 8 a) 7 (get_or (big_bytes 8 b) 7 0)) q 0 ≡ get_or (big_bytes 8 b) q 0) (sym here) (get_or-set_same (big_bytes 8 a) 7 (get_or (big_bytes 8 b) 7 0) 0 (omega (arith, bytes_long a))))
    (λ other. get_or-set_other (big_bytes 8 a) 7 k (get_or (big_bytes 8 b) 7 0) 0 other ∙ same k (omega arith))
    (cases_eq k 7))

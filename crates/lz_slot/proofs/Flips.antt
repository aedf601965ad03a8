-- One bit turned in a slot of format 4: its byte has three ones or five, so it is neither zero nor paired.
use Rattle.std.proofs.Common.{◌≡◌, ℕ, zero, suc, ◌+◌, ◌*◌, ◌/◌, ◌%◌, ◌<◌, Bool, true, false, List, [], ◌∷◌, length, get_or, refl}
use Rattle.std.proofs.{Common.{arith}, lemmas.{Bool.{cases_Bool, Decides.{nat_tests}}}}
use Rattle.std.specs.{Prelude.{◌==◌, replicate}, List.{list_all}}
use Rattle.byteorder.specs.{Endian.{big_bytes, big_number}}
use Rattle.lz_slot.specs.{declared.slot.SlotRead.{TheVariants.{Torn, BadKey}}}
use Rattle.lz_slot.proofs.Whole as whole
use Rattle.lz_slot.specs.Whole.{spelled, spells, whole_slot, is_paired, is_shut, flipped, with_flip, FlipsAreNoKeys}

-- of a byte of four bits and their complement
flip : (h bit : ℕ) → h < 16 → bit < 8 → ((flipped bit (15 * (h + 1)) == 0) ≡ false) × (is_paired (flipped bit (15 * (h + 1))) ≡ false)
flip h zero lt below = grind (arith, nat_tests)
flip h (suc zero) lt below = grind (arith, nat_tests)
flip h (suc (suc zero)) lt below = grind (arith, nat_tests)
flip h (suc (suc (suc zero))) lt below = grind (arith, nat_tests)
flip h (suc (suc (suc (suc zero)))) lt below = grind (arith, nat_tests)
flip h (suc (suc (suc (suc (suc zero))))) lt below = grind (arith, nat_tests)
flip h (suc (suc (suc (suc (suc (suc zero)))))) lt below = grind (arith, nat_tests)
flip h (suc (suc (suc (suc (suc (suc (suc zero))))))) lt below = grind (arith, nat_tests)
flip h (suc (suc (suc (suc (suc (suc (suc (suc bit)))))))) lt below = absurd (omega (arith, below))

-- its slot isn't shut, and isn't paired
found : (bytes : List ℕ) (at bit : ℕ) → ((i : ℕ) → get_or bytes i 0 < 256) → at < 2 * length bytes → bit < 8
    → (is_shut (with_flip (spelled bytes) at bit) ≡ false) × (list_all is_paired (with_flip (spelled bytes) at bit) ≡ false)
found [] at bit fits lt below = absurd (omega (arith, lt))
found (b ∷ bytes) zero bit fits lt below =
    let low = fits 0 in
    let here = flip (b / 16) bit (omega (arith, low)) below in
    let rest = whole.never_shut bytes in
    grind (arith, nat_tests)
found (b ∷ bytes) (suc zero) bit fits lt below =
    let here = flip (b % 16) bit (omega arith) below in
    let rest = whole.never_shut bytes in
    grind (arith, nat_tests)
found (b ∷ bytes) (suc (suc at)) bit fits lt below =
    let rest = found bytes at bit (λ i. fits (suc i)) (omega (arith, lt)) below in
    grind (arith, nat_tests)

says : (shut none pairs : Bool) (x : ℕ) → shut ≡ false → pairs ≡ false → whole.whole_tests shut none pairs x ≡ BadKey
says shut none pairs x opened other = grind (arith, nat_tests)

-- a bit that is turned in a byte that is zero
one_bit : (bit : ℕ) → bit < 8 → (flipped bit 0 == 0) ≡ false
one_bit zero below = refl
one_bit (suc zero) below = refl
one_bit (suc (suc zero)) below = refl
one_bit (suc (suc (suc zero))) below = refl
one_bit (suc (suc (suc (suc zero)))) below = refl
one_bit (suc (suc (suc (suc (suc zero))))) below = refl
one_bit (suc (suc (suc (suc (suc (suc zero)))))) below = refl
one_bit (suc (suc (suc (suc (suc (suc (suc zero))))))) below = refl
one_bit (suc (suc (suc (suc (suc (suc (suc (suc bit)))))))) below = absurd (omega (arith, below))

-- zeros with a bit turned aren't all zeros, and are shut where there are two
not_none : (n at bit : ℕ) → at < n → bit < 8 → list_all (λ b. b == 0) (with_flip (replicate n 0) at bit) ≡ false
not_none zero at bit lt below = absurd (omega (arith, lt))
not_none (suc n) zero bit lt below = let one = one_bit bit below in grind (arith, nat_tests)
not_none (suc n) (suc at) bit lt below = let rest = not_none n at bit (omega (arith, lt)) below in grind (arith, nat_tests)

stays_shut : (n at bit : ℕ) → is_shut (with_flip (replicate (suc (suc n)) 0) at bit) ≡ true
stays_shut n zero bit = grind (arith, cases_Bool)
stays_shut n (suc at) bit = refl

tears : (shut none pairs : Bool) (x : ℕ) → shut ≡ true → none ≡ false → whole.whole_tests shut none pairs x ≡ Torn
tears shut none pairs x is other = grind (arith, nat_tests)

pub flips_are_no_keys : FlipsAreNoKeys
flips_are_no_keys k at bit lt below =
    let bytes = with_flip (whole_slot k) at bit in
    let both = found (big_bytes 8 k) at bit (whole.bytes_fit k) lt below in
    let zeros = with_flip (replicate 16 0) at bit in (
      says (is_shut bytes) (list_all (λ b. b == 0) bytes) (list_all is_paired bytes) (big_number 8 (spells bytes)) both.0 both.1,
      tears (is_shut zeros) (list_all (λ b. b == 0) zeros) (list_all is_paired zeros) (big_number 8 (spells zeros)) (stays_shut 14 at bit) (not_none 16 at bit lt below),
    )

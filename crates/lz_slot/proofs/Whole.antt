-- The slots of format 4: what is read of one is what was written, and no mixture of zeros with one is another.
use Rattle.std.proofs.Common.{◌≡◌, ◌⊎◌, inl, inr, ⊎_elim, ℕ, zero, suc, ◌+◌, ◌*◌, ◌/◌, ◌%◌, ◌<◌, ◌≤◌, Bool, true, false, List, [], ◌∷◌, length, get_or, refl}
use Rattle.std.proofs.{Common.{sym, ap, ◌∙◌, arith}, lemmas.{Bool.{cases_Bool, Decides.{nat_tests, eqb_tells}}, Nat.{be_bytes_8}}}
use Rattle.std.specs.{Prelude.{◌&&◌, ◌==◌, nat_le, replicate, if◌then◌else◌}, List.{list_all}, Int.{w64, from_be_bytes}}
use Rattle.byteorder.specs.{Endian.{big_bytes, big_number}, Numbers.{big_number-reads_back}}
use Rattle.lz_slot.specs.{Limits.{largest_key}, declared.slot.SlotRead.{SlotRead, TheVariants.{Closed, Torn, Member, BadKey}}}
use Rattle.lz_slot.specs.Whole.{spelled, spells, whole_slot, is_paired, is_shut, whole_read, IsPartOf, MixturesAreWhole, ShutStaysShut}

-- a mixture of zeros with a list, one byte after the other
part_tail : (x y : ℕ) (t whole : List ℕ) → IsPartOf (x ∷ t) (y ∷ whole) → IsPartOf t whole
part_tail x y t whole part = (omega (arith, part.0), λ i lt. part.1 (suc i) (omega (arith, lt)))

shut_here : (x : ℕ) (t : List ℕ) → x ≡ 0 → is_shut (x ∷ t) ≡ true
shut_here x t is = rw is refl

shut_after : (x : ℕ) (t : List ℕ) → is_shut t ≡ true → is_shut (x ∷ t) ≡ true
shut_after x t shut = grind (arith, nat_tests)

-- it is closed, or all of the list
mixed : (t whole : List ℕ) → IsPartOf t whole → (is_shut t ≡ true) ⊎ (t ≡ whole)
mixed [] [] part = inr refl
mixed (x ∷ t) (y ∷ whole) part =
    ⊎_elim
    (λ none. inl (shut_here x t none))
    (λ same. ⊎_elim (λ shut. inl (shut_after x t shut)) (λ rest. inr (λ i. same i ∷ rest i)) (mixed t whole (part_tail x y t whole part)))
    (part.1 0 (omega arith))
mixed _ _ part = absurd (omega (arith, part.0))

pub mixtures_are_whole : MixturesAreWhole
mixtures_are_whole k t part = mixed t (whole_slot k) part

-- a zero stays one
pub shut_stays_shut : ShutStaysShut
shut_stays_shut [] [] part shut = shut
shut_stays_shut (y ∷ bytes) (x ∷ t) part shut = elim (eqb_tells y 0) [
  | inl here ↦ shut_here x t (⊎_elim (λ none. none) (λ same. same ∙ here.1) (part.1 0 (omega arith)))
  | inr other ↦ shut_after x t (shut_stays_shut bytes t (part_tail x y t bytes part) (sym (rw other.0 refl) ∙ shut))
]
shut_stays_shut _ _ part shut = absurd (omega (arith, part.0))

-- what is spelled of bytes spells them again, has no zero, and has each four bits with their complement
low_byte : (b : ℕ) → b < 256 → 16 * ((15 * (b / 16 + 1)) / 16) + (15 * (b % 16 + 1)) / 16 ≡ b
low_byte b lt = omega arith

high_paired : (b : ℕ) → b < 256 → (15 * (b / 16 + 1)) / 16 + (15 * (b / 16 + 1)) % 16 ≡ 15
high_paired b lt = omega arith

low_paired : (b : ℕ) → (15 * (b % 16 + 1)) / 16 + (15 * (b % 16 + 1)) % 16 ≡ 15
low_paired b = omega arith

spells_again : (bytes : List ℕ) → ((i : ℕ) → get_or bytes i 0 < 256) → spells (spelled bytes) ≡ bytes
spells_again [] fits = refl
spells_again (b ∷ bytes) fits =
    let here = low_byte b (fits 0) in
    let rest = spells_again bytes (λ i. fits (suc i)) in
    (λ i. here i ∷ rest i)

pub never_shut : (bytes : List ℕ) → is_shut (spelled bytes) ≡ false
never_shut [] = refl
never_shut (b ∷ bytes) =
    let rest = never_shut bytes in
    grind (arith, nat_tests)

all_paired : (bytes : List ℕ) → ((i : ℕ) → get_or bytes i 0 < 256) → list_all is_paired (spelled bytes) ≡ true
all_paired [] fits = refl
all_paired (b ∷ bytes) fits =
    let high = high_paired b (fits 0) in
    let low = low_paired b in
    let rest = all_paired bytes (λ i. fits (suc i)) in
    grind (arith, nat_tests)

-- what a slot says, by whether it is shut, whether it is all zeros, whether its bytes are paired, and its number
abbrev pub whole_tests : Bool → Bool → Bool → ℕ → SlotRead
whole_tests shut none pairs x = if shut then (if none then Closed else Torn) else if pairs && nat_le x largest_key then Member x else BadKey

whole_says : (shut none pairs : Bool) (x k : ℕ) → shut ≡ false → pairs ≡ true → x ≡ k → k ≤ largest_key → whole_tests shut none pairs x ≡ Member k
whole_says shut none pairs x k opened paired same low = grind (arith, nat_tests)

whole_passes : (shut none pairs : Bool) (x k : ℕ) → whole_tests shut none pairs x ≡ Member k → (shut ≡ false) × (pairs ≡ true) × (x ≡ k) × (k ≤ largest_key)
whole_passes shut none pairs x k is = grind (arith, nat_tests)

pub bytes_fit : (k i : ℕ) → get_or (big_bytes 8 k) i 0 < 256
bytes_fit k (suc (suc (suc (suc (suc (suc (suc (suc i)))))))) = omega arith
bytes_fit k _ = omega arith

-- the bytes of a key's slot are bytes
spelled_bytes : (bytes : List ℕ) → ((i : ℕ) → get_or bytes i 0 < 256) → (i : ℕ) → get_or (spelled bytes) i 0 < 256
spelled_bytes [] fits i = omega arith
spelled_bytes (b ∷ bytes) fits zero = let low = fits 0 in omega arith
spelled_bytes (b ∷ bytes) fits (suc zero) = omega arith
spelled_bytes (b ∷ bytes) fits (suc (suc i)) = spelled_bytes bytes (λ j. fits (suc j)) i

pub whole_bytes : (k i : ℕ) → get_or (whole_slot k) i 0 < 256
whole_bytes k = spelled_bytes (big_bytes 8 k) (bytes_fit k)

pub whole_reads_back : (k : ℕ) → k ≤ largest_key → whole_read (whole_slot k) ≡ Member k
whole_reads_back k low =
    let fits : (i : ℕ) → get_or (big_bytes 8 k) i 0 < 256 = λ i. bytes_fit k i in
    let number : big_number 8 (spells (spelled (big_bytes 8 k))) ≡ k = ap (big_number 8) (spells_again (big_bytes 8 k) fits) ∙ big_number-reads_back 8 k [] (omega arith) in
    whole_says _ _ _ _ k (never_shut (big_bytes 8 k)) (all_paired (big_bytes 8 k) fits) number low

-- paired bytes are those that what they spell is spelled by
paired_high : (x y : ℕ) → x / 16 + x % 16 ≡ 15 → y / 16 + y % 16 ≡ 15 → y < 256 → 15 * ((16 * (x / 16) + y / 16) / 16 + 1) ≡ x
paired_high x y high low fits = omega arith

paired_low : (x y : ℕ) → y / 16 + y % 16 ≡ 15 → y < 256 → 15 * ((16 * (x / 16) + y / 16) % 16 + 1) ≡ y
paired_low x y low fits = omega arith

two_paired : (x y : ℕ) (bytes : List ℕ) → list_all is_paired (x ∷ y ∷ bytes) ≡ true → (x / 16 + x % 16 ≡ 15) × (y / 16 + y % 16 ≡ 15) × (list_all is_paired bytes ≡ true)
two_paired x y bytes all = grind (arith, nat_tests)

spelled_again : (n : ℕ) (bytes : List ℕ) → length bytes ≡ 2 * n → ((i : ℕ) → get_or bytes i 0 < 256) → list_all is_paired bytes ≡ true → (spelled (spells bytes) ≡ bytes) × (length (spells bytes) ≡ n)
spelled_again zero [] long fits all = (refl, refl)
spelled_again (suc n) (x ∷ y ∷ bytes) long fits all =
    let two = two_paired x y bytes all in
    let rest = spelled_again n bytes (omega arith) (λ i. fits (suc (suc i))) two.2 in
    let one = paired_high x y two.0 two.1 (fits 1) in
    let next = paired_low x y two.1 (fits 1) in
    ((λ i. one i ∷ next i ∷ rest.0 i), ap suc rest.1)
spelled_again _ _ long fits all = absurd (omega arith)

spelled_fit : (bytes : List ℕ) → ((i : ℕ) → get_or bytes i 0 < 256) → (i : ℕ) → get_or (spells bytes) i 0 < 256
spelled_fit (x ∷ y ∷ bytes) fits zero = let high = fits 0 in let low = fits 1 in omega arith
spelled_fit (x ∷ y ∷ bytes) fits (suc i) = spelled_fit bytes (λ j. fits (suc (suc j))) i
spelled_fit _ fits i = omega arith

pub whole_fits : (bytes : List ℕ) (k : ℕ) → whole_read bytes ≡ Member k → k ≤ largest_key
whole_fits bytes k is = (whole_passes (is_shut bytes) (list_all (λ b. b == 0) bytes) (list_all is_paired bytes) (big_number 8 (spells bytes)) k is).3

pub whole_is_of_its_key : (bytes : List ℕ) (k : ℕ) → length bytes ≡ 16 → ((i : ℕ) → get_or bytes i 0 < 256) → whole_read bytes ≡ Member k → (k ≤ largest_key) × (bytes ≡ whole_slot k)
whole_is_of_its_key bytes k long fits is =
    let passed = whole_passes (is_shut bytes) (list_all (λ b. b == 0) bytes) (list_all is_paired bytes) (big_number 8 (spells bytes)) k is in
    let back = spelled_again 8 bytes (omega arith) fits passed.1 in
    let same : big_number 8 (spells bytes) ≡ from_be_bytes w64 (spells bytes) = omega (arith, back.1) in
    let rest : big_bytes 8 (big_number 8 (spells bytes)) ≡ spells bytes = be_bytes_8 (spells bytes) (big_number 8 (spells bytes)) back.1 (spelled_fit bytes fits) same in
    (passed.3, sym back.0 ∙ ap spelled (sym rest ∙ ap (big_bytes 8) passed.2))

-- what is read of a shut slot
pub shut_whole : (bytes : List ℕ) → is_shut bytes ≡ true → (whole_read bytes ≡ Closed) ⊎ (whole_read bytes ≡ Torn)
shut_whole bytes shut = grind (arith, cases_Bool)

-- a slot that is read as closed is all zeros, and one that is read as torn is shut
shut_tests : (shut none pairs : Bool) (x : ℕ) → whole_tests shut none pairs x ≡ Torn → shut ≡ true
shut_tests shut none pairs x is = grind (arith, nat_tests)

closed_tests : (shut none pairs : Bool) (x : ℕ) → whole_tests shut none pairs x ≡ Closed → none ≡ true
closed_tests shut none pairs x is = grind (arith, nat_tests)

pub torn_is_shut : (bytes : List ℕ) → whole_read bytes ≡ Torn → is_shut bytes ≡ true
torn_is_shut bytes is = shut_tests (is_shut bytes) (list_all (λ b. b == 0) bytes) (list_all is_paired bytes) (big_number 8 (spells bytes)) is

pub zeros : (xs : List ℕ) (n : ℕ) → length xs ≡ n → list_all (λ b. b == 0) xs ≡ true → xs ≡ replicate n 0
zeros [] zero long all = refl
zeros (x ∷ xs) (suc n) long all = elim (eqb_tells x 0) [
  | inl t ↦ let rest = rw t.0 at all in let ih = zeros xs n (omega arith) rest in cc (t.1, ih)
  | inr f ↦ let rest = rw f.0 at all in absurd cc
]
zeros _ _ long all = absurd (omega arith)

pub closed_is_zeros : (bytes : List ℕ) → length bytes ≡ 16 → whole_read bytes ≡ Closed → bytes ≡ replicate 16 0
closed_is_zeros bytes long is = zeros bytes 16 long (closed_tests (is_shut bytes) (list_all (λ b. b == 0) bytes) (list_all is_paired bytes) (big_number 8 (spells bytes)) is)

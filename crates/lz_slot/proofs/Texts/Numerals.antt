-- Numbers and their plain decimals.
use Rattle.std.proofs.Common.{◌≡◌, ℕ, zero, suc, ◌+◌, ◌-◌, ◌*◌, ◌<◌, ◌≤◌, List, length, take, get_or, slice_index, decimal, All, true, false, nat_le, Option}
use Rattle.std.proofs.{Common.{Some, None, arith, rules, refl, sym, ap, ◌∙◌}, lemmas.{Bool.{cond_both, Decides.{nat_tests}}, Int.Digits.{digits_value_more}}}
use Rattle.std.proofs.lemmas.Str.{digit_value_digit, Parse.{IsNumeralModel, numerals_by_value, digits_value-take-le}}
use Rattle.std.proofs.lemmas.Fmt.{decimal-digits_value, digits_decimal, digits_value-decimal, decimal_nonempty, first_decimal, decimal_digit}
use Rattle.std.specs.{Prelude.{option_and_then, ◌&&◌}, Int.{IsInRange}, List.{list_all}, Str.Parse.{digits_value}}
use Rattle.lz_slot.specs.Numerals.{is_digit, is_number, largest_read, number_in, within, NumbersReadBack}

pub tested : IsNumeralModel (λ (ds : List ℕ). list_all is_digit ds ≡ true) (digits_value 10)
tested = numerals_by_value _ (search rules)

-- the number of one digit more
pub digits_next : (ds : List ℕ) (i : ℕ) → All (IsInRange 48 57) ds → i < length ds
    → digits_value 10 (take (i + 1) ds) ≡ 10 * digits_value 10 (take i ds) + (slice_index ds i - 48)
digits_next ds i digits h = omega (arith, digits_value_more 10 ds i h, digit_value_digit (get_or ds i 0) (digits i 0 h))

pub too_large : (ds : List ℕ) (i : ℕ) → largest_read < digits_value 10 (take i ds) → None ≡ within 0 largest_read (digits_value 10 ds)
too_large ds i large =
    let more : largest_read < digits_value 10 ds = omega (arith, large, digits_value-take-le 10 ds i (omega arith)) in
    let test : nat_le (digits_value 10 ds) largest_read ≡ false = grind (arith, nat_tests, more) in
    let low : nat_le 0 (digits_value 10 ds) ≡ true = grind (arith, nat_tests) in
    rw (low, test) refl

-- a number within bounds is itself
pub within_fits : (low high n : ℕ) → low ≤ n → n ≤ high → within low high n ≡ Some n
within_fits low high n above below =
    let left : nat_le low n ≡ true = grind (arith, nat_tests, above) in
    let right : nat_le n high ≡ true = grind (arith, nat_tests, below) in
    rw (left, right) refl

pub fits : (n : ℕ) → n ≤ largest_read → Some n ≡ within 0 largest_read n
fits n h = sym (within_fits 0 largest_read n (omega arith) h)

within_told : (low high m n : ℕ) → within low high m ≡ Some n → (low ≤ n) × (n ≤ high) × (m ≡ n)
within_told low high m n = cond_both (nat_le low m && nat_le m high) (Some m) None (λ (r : Option ℕ). r ≡ Some n → (low ≤ n) × (n ≤ high) × (m ≡ n))
    (λ both e. let same : m ≡ n = cc in (grind (arith, nat_tests), grind (arith, nat_tests), same)) (λ _ e. absurd (cc))

-- what a number's test tells
pub record IsNumber (text : List ℕ) : Type 0 where
  pub some : 0 < length text
  pub digits : list_all is_digit text ≡ true
  pub plain : get_or text 0 0 ≡ 48 → length text ≡ 1

pub number_told : (text : List ℕ) → is_number text ≡ true → IsNumber text
number_told text h = record { some = grind (arith, nat_tests); digits = grind (arith, nat_tests); plain = λ e. grind (arith, nat_tests) }

number_tells : (text : List ℕ) → IsNumber text → is_number text ≡ true
number_tells text h = grind (arith, nat_tests, h.some, h.digits, h.plain)

value_text : (text : List ℕ) → is_number text ≡ true → digits_value 10 text ≤ largest_read → decimal (digits_value 10 text) ≡ text
value_text text h small =
    let told = number_told text h in
    decimal-digits_value tested text told.digits told.some told.plain (omega arith)

plain_decimal : (n : ℕ) → n ≤ largest_read → get_or (decimal n) 0 0 ≡ 48 → length (decimal n) ≡ 1
plain_decimal zero small e = ap length (decimal_digit 0 (omega arith))
plain_decimal (suc n) small e = absurd (omega (arith, first_decimal (suc n) (omega arith) (omega arith)))

-- the text of a number is a number
pub decimal_number : (n : ℕ) → n ≤ largest_read → is_number (decimal n) ≡ true
decimal_number n small = number_tells (decimal n) (record {
  some = decimal_nonempty n (omega arith);
  digits = digits_decimal tested n (omega arith);
  plain = plain_decimal n small;
})

-- and it is read as the number
pub decimal_read : (low high n : ℕ) → high ≤ largest_read → low ≤ n → n ≤ high → number_in low high (decimal n) ≡ Some n
decimal_read low high n big above below = grind (arith, decimal, digits_value-decimal, tested, decimal_number, within_fits)

-- what is read of a text within bounds
IsRead : ℕ → ℕ → ℕ → List ℕ → Option ℕ → Type 0
IsRead low high n text r = option_and_then (within low high) r ≡ Some n → (low ≤ n) × (n ≤ high) × (text ≡ decimal n)

value_told : (low high n : ℕ) (text : List ℕ) → is_number text ≡ true → IsRead low high n text (within 0 largest_read (digits_value 10 text))
unfolding IsRead
value_told low high n text number = cond_both (nat_le 0 (digits_value 10 text) && nat_le (digits_value 10 text) largest_read) (Some (digits_value 10 text)) None (IsRead low high n text)
    (λ both e. let told = within_told low high (digits_value 10 text) n e in
    let small : digits_value 10 text ≤ largest_read = grind (arith, nat_tests) in
    (told.0, told.1, sym (value_text text number small) ∙ ap decimal told.2)) (λ _ e. absurd (cc))

pub number_told_of : (low high n : ℕ) (text : List ℕ) → number_in low high text ≡ Some n → (low ≤ n) × (n ≤ high) × (text ≡ decimal n)
unfolding IsRead
number_told_of low high n text = cond_both (is_number text) (within 0 largest_read (digits_value 10 text)) None (IsRead low high n text)
    (λ number. value_told low high n text number) (λ _ e. absurd (cc))

pub numbers_read_back : NumbersReadBack
numbers_read_back low high n text big =
    (λ e. number_told_of low high n text e, λ (above, below, is). ap (number_in low high) is ∙ decimal_read low high n big above below)

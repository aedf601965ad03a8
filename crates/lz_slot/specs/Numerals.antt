-- Numbers as texts. A text is a list of bytes.
use Rattle.std.specs.Prelude.{◌≡◌, ◌↔◌, ℕ, ◌≤◌, ◌==◌, ◌&&◌, Bool, not, nat_lt, nat_le, if◌then◌else◌, List, length, slice_index, decimal, Option, None, Some}
use Rattle.std.specs.{Prelude.{option_and_then}, List.{list_all}, Str.Parse.{digits_value}}

-- the byte is a decimal digit
abbrev pub is_digit : ℕ → Bool
is_digit b = nat_le 48 b && nat_le b 57

-- a zero stands in front, and not alone
abbrev pub has_zero_in_front : List ℕ → Bool
has_zero_in_front text = nat_lt 1 (length text) && (slice_index text 0 == 48)

-- digits, with no zero in front unless it stands alone
abbrev pub is_number : List ℕ → Bool
is_number text = nat_lt 0 (length text) && not (has_zero_in_front text) && list_all is_digit text

-- the largest number that is read
abbrev pub largest_read : ℕ
largest_read = 18_446_744_073_709_551_615

-- the number, where it lies from the lowest up to the highest
abbrev pub within : ℕ → ℕ → ℕ → Option ℕ
within low high n = if nat_le low n && nat_le n high then Some n else None

-- the number of which the text is the plain decimal
abbrev pub number_read : List ℕ → Option ℕ
number_read text = if is_number text then within 0 largest_read (digits_value 10 text) else None

-- the same, where it lies from the lowest up to the highest
abbrev pub number_in : ℕ → ℕ → List ℕ → Option ℕ
number_in low high text = option_and_then (within low high) (number_read text)

-- a number within bounds is read exactly of its plain decimal
abbrev pub NumbersReadBack : Type 0
NumbersReadBack =
    (low high n : ℕ) (text : List ℕ) → high ≤ largest_read
    → (number_in low high text ≡ Some n) ↔ ((low ≤ n) × (n ≤ high) × (text ≡ decimal n))

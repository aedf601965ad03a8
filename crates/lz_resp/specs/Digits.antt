-- Digits.
use Rattle.std.specs.Prelude.{ℕ, ◌-◌, if◌then◌else◌, Option, None, Some}
use Rattle.lz_slot.specs.Numerals.{is_digit}

-- the number of which the byte is the digit
abbrev pub digit_of : ℕ → Option ℕ
digit_of b = if is_digit b then Some (b - 48) else None

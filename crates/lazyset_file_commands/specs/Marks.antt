-- Marks: keys of the last room that say what a file is for.
use Rattle.std.specs.Prelude.{ℕ, ◌+◌, ◌%◌, List, [], ◌∷◌, Option, None, Some}
use Rattle.lz_resp.specs.Keys.{secret_number}

-- the mark that keys are texts: kind 1 and value 0, so number 1 x 10^15 + 0 of room 15
abbrev pub texts_mark : ℕ
texts_mark = 15_001_000_000_000_000_000

-- the marks of secrets: kind 2, and a number of the secret as value
abbrev pub first_secret_mark : ℕ
first_secret_mark = 15_002_000_000_000_000_000

abbrev pub last_secret_mark : ℕ
last_secret_mark = 15_002_999_999_999_999_999

abbrev pub secret_mark : ℕ → ℕ
secret_mark number = first_secret_mark + number % 1_000_000_000_000_000

-- the marks of a file of texts, in the order in which they are added: that they are texts, and that of their secret, where there is one, by its block
abbrev pub marks_of : Option (List ℕ) → List ℕ
marks_of None = texts_mark ∷ []
marks_of (Some block) = texts_mark ∷ secret_mark (secret_number block) ∷ []

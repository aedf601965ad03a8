-- The limits of a history.
use Rattle.std.specs.Prelude.{ℕ}

-- the most calls of a history
abbrev pub most_calls : ℕ
most_calls = 100_000

-- the most bytes of a history's text
abbrev pub most_bytes : ℕ
most_bytes = 4_194_304

-- the largest place of a point
abbrev pub largest_place : ℕ
largest_place = 999_999_999_999

-- the faults of an open count from 1 up to this one
abbrev pub most_faults : ℕ
most_faults = 8

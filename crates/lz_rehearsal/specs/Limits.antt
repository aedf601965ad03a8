-- The limits of a script.
use Rattle.std.specs.Prelude.{ℕ}

-- the most turns that one line plays
abbrev pub most_turns : ℕ
most_turns = 1_000_000

-- the most bytes that a crash in part keeps by its line
abbrev pub most_kept : ℕ
most_kept = 9_999

-- the most bytes of a line, without its line feed
abbrev pub most_length : ℕ
most_length = 64

-- the most lines of a script
abbrev pub most_lines : ℕ
most_lines = 100_000

-- the most bytes of an input that are read: one line more than the most, each of the longest, with its line feed
abbrev pub most_bytes : ℕ
most_bytes = 6_500_065

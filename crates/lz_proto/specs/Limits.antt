-- The limits of lines.
use Rattle.std.specs.Prelude.{ℕ}

-- the most bytes of a line, less its carriage return
abbrev pub most_line : ℕ
most_line = 64

-- the most bytes of an unfinished line that are kept: those of a line, a carriage return, and one that makes it too long
abbrev pub most_kept : ℕ
most_kept = 66

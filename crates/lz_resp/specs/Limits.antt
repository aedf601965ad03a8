-- The limits of frames.
use Rattle.std.specs.Prelude.{ℕ}

-- the most bytes of an argument
abbrev pub most_argument : ℕ
most_argument = 512

-- the most arguments of a frame
abbrev pub most_arguments : ℕ
most_arguments = 8192

-- the most bytes of a frame
abbrev pub most_frame : ℕ
most_frame = 65536

-- how many keys a page has at most, as far as a frame says and where it says nothing
abbrev pub most_listed : ℕ
most_listed = 256

abbrev pub few_listed : ℕ
few_listed = 10

-- the most bytes of a value, which isn't kept
abbrev pub most_value : ℕ
most_value = 64

-- the fewest and the most bytes of a secret
abbrev pub fewest_secret : ℕ
fewest_secret = 16

abbrev pub most_secret : ℕ
most_secret = 64

-- The grammar of frames. A text and an argument are lists of bytes; a frame has arguments.
use Rattle.std.specs.Prelude.{◌≡◌, ◌⊎◌, ℕ, ◌≤◌, Bool, true, false, ◌||◌, ◌&&◌, ◌==◌, nat_eq, nat_lt, nat_le, List, [], ◌∷◌, ◌++◌, length, decimal, codes}
use Rattle.std.specs.{Prelude.{filter}, List.{flat_map, list_any, list_all, slice_split, starts_with}}
use Rattle.lz_proto.specs.Lines.{line_feed, carriage_return}
use Rattle.lz_resp.specs.Limits.{most_frame, most_argument, most_arguments}

abbrev pub star : ℕ
star = 42

abbrev pub dollar : ℕ
dollar = 36

abbrev pub line_end : List ℕ
line_end = carriage_return ∷ line_feed ∷ []

-- a bulk string: its length on a line, and its bytes with a line's end after them
abbrev pub bulk : List ℕ → List ℕ
bulk argument = dollar ∷ decimal (length argument) ++ line_end ++ argument ++ line_end

-- an array: the number of its arguments on a line, and each argument as a bulk string
abbrev pub array : List (List ℕ) → List ℕ
array arguments = star ∷ decimal (length arguments) ++ line_end ++ flat_map bulk arguments

-- an array of less than no arguments
abbrev pub less_than_none : ℕ → List ℕ
less_than_none n = codes "*-" ++ decimal n ++ line_end

-- space, tab, LF, VT, FF and CR
abbrev pub is_blank : ℕ → Bool
is_blank b = (b == 32) || (nat_le 9 b && nat_le b 13)

-- what would begin a text with blanks in it
abbrev pub is_quote : ℕ → Bool
is_quote b = (b == 34) || (b == 39)

-- the arguments of a line: what stands between blanks
abbrev pub arguments_of : List ℕ → List (List ℕ)
arguments_of line = filter (λ argument. nat_lt 0 (length argument)) (slice_split is_blank line)

-- an inline frame: a line that begins with no star and has no quotes, and its LF
pub record IsInline (text : List ℕ) (arguments : List (List ℕ)) : Type 0 where
  pub line : List ℕ
  pub whole : text ≡ line ++ line_feed ∷ []
  pub one : list_any (nat_eq line_feed) line ≡ false
  pub other : starts_with nat_eq line (codes "*") ≡ false
  pub plain : list_any is_quote line ≡ false
  pub its : arguments ≡ arguments_of line

-- the text is a frame of these arguments
abbrev pub IsFrame : List ℕ → List (List ℕ) → Type 0
IsFrame text arguments =
    (text ≡ array arguments) ⊎ ((arguments ≡ []) × ((n : ℕ) × (1 ≤ n) × (n ≤ 18446744073709551615) × (text ≡ less_than_none n))) ⊎ IsInline text arguments

-- neither the arguments nor the text are longer than a frame's may be
abbrev pub fits : List (List ℕ) → Bool
fits arguments = nat_le (length arguments) most_arguments && list_all (λ argument. nat_le (length argument) most_argument) arguments

abbrev pub IsWithin : List ℕ → List (List ℕ) → Type 0
IsWithin text arguments = (fits arguments ≡ true) × (length text ≤ most_frame)

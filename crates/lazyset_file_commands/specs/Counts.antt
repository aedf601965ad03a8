-- The counts of what a file holds.
use Rattle.std.specs.Prelude.{ℕ, ◌-◌, List, [], ◌∷◌, ◌++◌, codes, count_by, decimal, length}
use Rattle.lz_slot.specs.declared.format.Format.{Format, TheVariants.{One, Two, Three, Four}}
use Rattle.lz_judge.specs.{Surveys.{is_sound}, declared.finding.Finding.{Finding}}

-- the number that a format is asked for by
abbrev pub format_number : Format → ℕ
format_number One = 1
format_number Two = 2
format_number Three = 3
format_number Four = 4

-- the line of a count
abbrev pub count_text : List ℕ → ℕ → List ℕ
count_text word count = word ++ codes " " ++ decimal count ++ 10 ∷ []

-- the lines of these counts
abbrev pub lines_of_counts : Format → ℕ → ℕ → ℕ → List ℕ
lines_of_counts F slots members free =
    count_text (codes "format") (format_number F) ++ count_text (codes "slots") slots ++ count_text (codes "members") members ++ count_text (codes "free") free

-- The counts of a file: a member is a key that was found for the first time, and a slot is free where nothing was found.
abbrev pub counts_text : Format → ℕ → List Finding → List ℕ
counts_text F slots findings = lines_of_counts F slots (count_by is_sound findings) (slots - length findings)

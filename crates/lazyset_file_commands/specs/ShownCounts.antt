-- What the counts that are shown of a file have to do with the set that it holds.
use Rattle.std.specs.Prelude.{◌≡◌, ℕ, ◌-◌, List, [], ◌∷◌, ◌++◌, codes}
use Rattle.lz_slot.specs.{Bytes.{Holds, format_of}, Sets.{HasMembers, Keys}}
use Rattle.lz_judge.specs.{Surveys.{IsSurveyed}, declared.finding.Survey.{Survey}}
use Rattle.lazyset_file_commands.specs.{Checks.{shown_text}, Counts.{lines_of_counts}, declared.shown.Shown.TheVariants.{Counts}}

-- Of a file that holds a set the counts are its format, its slots, how many members the set has, and all other slots as free ones.
abbrev pub CountsAreOfSet : Type 0
CountsAreOfSet =
    (t : List ℕ) (survey : Survey) → IsSurveyed t survey → (N : ℕ) (S : Keys) → Holds t N S
    → (m : ℕ) × HasMembers S m × (shown_text Counts survey ≡ lines_of_counts (format_of t) N m (N - m) ++ (codes "good" ++ 10 ∷ []))

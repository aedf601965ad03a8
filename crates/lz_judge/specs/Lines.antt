-- What a line of a history says.
use Rattle.std.specs.Prelude.{◌≤◌}
use Rattle.lz_judge.specs.{declared.line.Line.{Line, TheVariants.{Seen, Placed, Other}}, Limits.{largest_place}}

-- the place of a point is one
abbrev pub IsLow : Line → Type 0
IsLow (Seen mark) = Unit {0}
IsLow (Placed point) = point.place ≤ largest_place
IsLow Other = Unit {0}

-- What the steps of reading a script do.
use Rattle.std.specs.Prelude.{◌≡◌, ◌⊎◌, ℕ, ◌+◌, ◌<◌, None, Some, List, [], ◌∷◌, ◌++◌, length}
use Rattle.lz_rehearsal.specs.declared.{line.Line.{Line}, script.ScriptFault.{ScriptFault, TheVariants.{Line as BadLine, Read, Memory}}}
use Rattle.lz_rehearsal.specs.{Scripts.{FailsAt, line_read}, Limits.{most_lines}}

-- a fault that reading a text may have: the number of its first line that doesn't read, or lack of memory
abbrev pub IsFaultOf : List ℕ → ScriptFault → Type 0
IsFaultOf text (BadLine number) = FailsAt text number
IsFaultOf text Read = ⊥
IsFaultOf text Memory = Unit {0}

-- the line of a text was added after these lines
pub record AddsLine (text : List ℕ) (old new : List Line) : Type 0 where
  pub line : Line
  pub reads : line_read text ≡ Some line
  pub room : length old < most_lines
  pub added : new ≡ old ++ line ∷ []

-- why no line was added: there are too many, the text is none, or there is no memory
abbrev pub IsLineFault : List ℕ → List Line → ScriptFault → Type 0
IsLineFault text old (BadLine number) = (number ≡ length old + 1) × ((length old ≡ most_lines) ⊎ (line_read text ≡ None))
IsLineFault text old Read = ⊥
IsLineFault text old Memory = Unit {0}

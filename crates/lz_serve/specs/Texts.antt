-- What an operator is told of a service.
use Rattle.std.specs.Prelude.{ℕ, List, ◌++◌, codes, decimal, Option, None, Some}
use Rattle.lz_serve.specs.declared.observer.{Loops.{Loops}, Serving.{Serving}}

-- the text of the number of passes, and of the loops, if there are any
abbrev pub passes_text : ℕ → Option Loops → List ℕ
passes_text passes None = decimal passes
passes_text passes (Some l) = decimal passes ++ codes ", connections " ++ decimal l.connections ++ codes ", loops " ++ decimal l.count

-- the text of what a service stands on
abbrev pub serving_text : Serving → List ℕ
serving_text s =
    codes "slots " ++ decimal s.slots ++ codes ", members " ++ decimal s.members ++ codes ", buckets " ++ decimal s.buckets ++ codes ", passes " ++ passes_text s.passes s.loops

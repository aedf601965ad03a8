-- Keys with the slots that hold them.
use Rattle.std.specs.Prelude.{ℕ, Bool, false, ◌&&◌, ◌||◌, ◌==◌, List, [], ◌∷◌}

abbrev pub Nodes : Type 0
Nodes = List (ℕ × ℕ)

-- a node of key k in slot s is among these
abbrev pub has_node : ℕ → ℕ → Nodes → Bool
has_node k s [] = false
has_node k s (f ∷ found) = ((f.0 == k) && (f.1 == s)) || has_node k s found

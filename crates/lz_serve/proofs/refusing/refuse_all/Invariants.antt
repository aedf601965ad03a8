use Rattle.lz_serve.proofs.refusing.refuse_all.Given as goal
use Rattle.std.specs.Prelude.{◌≡◌, ◌++◌, length}
use Rattle.lz_serve.specs.Refusals.{cut_turns}

abbrev pub invariant-loop-turn : goal.invariant-loop-turn
invariant-loop-turn l = l.cut.items ++ cut_turns 0 l.turns.items ≡ l.fn.cut.items ++ cut_turns 0 l.fn.turns.items

abbrev pub decreases-loop-turn : goal.decreases-loop-turn
decreases-loop-turn l = length l.turns.items

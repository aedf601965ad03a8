use Rattle.lz_serve.proofs.refusing.keep_begun.Given as goal
use Rattle.std.specs.Prelude.{◌≡◌, ◌++◌, length}
use Rattle.lz_serve.specs.Refusals.{cut_turns, kept_waiting}

abbrev pub invariant-turns : goal.invariant-turns
invariant-turns l = record {
  turns : l.cut.items ++ cut_turns l.left l.turns.items ≡ l.fn.cut.items ++ cut_turns l.begun l.fn.turns.items;
  waiting : kept_waiting l.left l.turns.items ≡ kept_waiting l.begun l.fn.turns.items;
}

abbrev pub decreases-turns : goal.decreases-turns
decreases-turns l = length l.turns.items

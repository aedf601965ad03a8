use Rattle.lz_judge.proofs.once.is_rising.Given as goal
use Rattle.std.proofs.Common.{ℕ, ◌+◌, ◌-◌, ◌<◌, ◌≤◌, get_or, length}

abbrev pub invariant-loop-index : goal.invariant-loop-index
invariant-loop-index l = record {
  range : l.index ≤ 1 + (length l.numbers - 1);
  rising : (k : ℕ) → k + 1 < l.index → get_or l.numbers k 0 < get_or l.numbers (k + 1) 0;
}

use Rattle.lz_growth.proofs.raising.changed_byte.Given as goal
use Rattle.std.proofs.Common.{◌≡◌, ◌<◌, ℕ, get_or}

abbrev pub invariant-loop-i : goal.invariant-loop-i
invariant-loop-i l = (k : ℕ) → k < l.i → get_or l.old k 0 ≡ get_or l.new k 0

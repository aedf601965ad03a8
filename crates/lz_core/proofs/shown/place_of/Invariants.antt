use Rattle.lz_core.proofs.shown.place_of.Given as goal
use Rattle.std.proofs.Common.{◌≡◌, ◌<◌, ℕ, Some, slice_get}

abbrev pub invariant-loop-index : goal.invariant-loop-index
invariant-loop-index l = (i k : ℕ) → i < l.index → slice_get l.keys i ≡ Some k → k < l.key

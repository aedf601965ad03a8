use Rattle.lz_yard.proofs.filling.taken_slots.Given as goal
use Rattle.std.proofs.Common.{◌≡◌}
use Rattle.lz_yard.specs.Filling.{taken_among}

abbrev pub invariant-loop-index : goal.invariant-loop-index
invariant-loop-index g l = l.taken.items ≡ taken_among l.vault.memory.cells l.index

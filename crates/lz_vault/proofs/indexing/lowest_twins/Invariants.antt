use Rattle.lz_vault.proofs.indexing.lowest_twins.Given as goal
use Rattle.std.proofs.Common.{◌+◌, ◌-◌, ◌≤◌, length}
use Rattle.lz_vault.specs.Members.{IsLowest}

abbrev pub invariant-loop-index : goal.invariant-loop-index
invariant-loop-index l = record {
  range : l.index ≤ 1 + (length l.members - 1);
  lowest : IsLowest l.members l.index l.lowest;
}

use Rattle.lz_vault.proofs.table.count_open.Given as goal
use Rattle.std.proofs.Common.{◌≡◌, ◌≤◌, take}
use Rattle.lz_vault.specs.Opens.{open_count}

abbrev pub invariant-loop-index : goal.invariant-loop-index
invariant-loop-index l = record { count : l.opened ≡ open_count (take l.index l.cells); few : l.opened ≤ l.index }

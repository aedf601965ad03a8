use Rattle.lz_vault.proofs.table.move_on.Given as goal
use Rattle.std.proofs.Common.{◌≡◌, ◌+◌, take}
use Rattle.lz_vault.specs.{Opens.{open_count}, Tables.{AreMoved}}

abbrev pub invariant-loop-index : goal.invariant-loop-index
invariant-loop-index l = record { moved : AreMoved l.initial.cells l.cells (take l.index l.slots); count : open_count l.cells ≡ open_count l.initial.cells + l.opened }

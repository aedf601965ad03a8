use Rattle.lz_vault.proofs.known.Known.turned.Given as goal
use Rattle.std.specs.Prelude.{slice_index_or, slice_set}
use Rattle.lz_vault.specs.Members.{no_cell}

abbrev pub ghost-of_values : goal.ghost-of_values
ghost-of_values a = slice_set a.first.now.cells a.second.now (record { stage = a.third.now; key = (slice_index_or a.first.now.cells a.second.now no_cell).key })

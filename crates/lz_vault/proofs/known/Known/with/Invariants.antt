use Rattle.lz_vault.proofs.known.Known.with.Given as goal
use Rattle.std.specs.Prelude.{slice_set}

abbrev pub ghost-of_values : goal.ghost-of_values
ghost-of_values a = slice_set a.first.now.cells a.second.now (record { stage = a.third.now; key = a.fourth.now })

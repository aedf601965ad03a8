use Rattle.lz_vault.proofs.known.Known.of_values.Given as goal

abbrev pub ghost-any : goal.ghost-any
ghost-any g a = g.cells

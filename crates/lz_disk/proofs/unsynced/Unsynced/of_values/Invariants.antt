use Rattle.lz_disk.proofs.unsynced.Unsynced.of_values.Given as goal

abbrev pub ghost-any : goal.ghost-any
ghost-any g a = g.writes

use Rattle.lz_disk.proofs.unsynced.Unsynced.of.Given as goal

abbrev pub ghost-of_values : goal.ghost-of_values
ghost-of_values g a = (g.F.Disk.device a.first.now).medium.loose

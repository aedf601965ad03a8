use Rattle.lz_disk.proofs.unsynced.Unsynced.and.Given as goal
use Rattle.std.specs.Prelude.{◌∷◌}

abbrev pub ghost-of_values : goal.ghost-of_values
ghost-of_values a = (a.second.now, a.third.now.now) ∷ a.first.now.writes

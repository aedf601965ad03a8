use Rattle.lz_vault.proofs.known.Known.and.Given as goal
use Rattle.std.specs.Prelude.{[], ◌∷◌, ◌++◌}

abbrev pub ghost-of_values : goal.ghost-of_values
ghost-of_values a = a.first.now.cells ++ record { stage = a.second.now; key = a.third.now } ∷ []

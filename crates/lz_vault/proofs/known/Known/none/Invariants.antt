use Rattle.lz_vault.proofs.known.Known.none.Given as goal
use Rattle.std.specs.Prelude.{[]}

abbrev pub ghost-any : goal.ghost-any
ghost-any a = []

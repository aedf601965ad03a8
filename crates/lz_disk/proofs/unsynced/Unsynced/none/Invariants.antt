use Rattle.lz_disk.proofs.unsynced.Unsynced.none.Given as goal
use Rattle.std.specs.Prelude.{[]}

abbrev pub ghost-any : goal.ghost-any
ghost-any a = []

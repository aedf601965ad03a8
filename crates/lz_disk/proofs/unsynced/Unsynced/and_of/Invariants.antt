use Rattle.lz_disk.proofs.unsynced.Unsynced.and_of.Given as goal
use Rattle.std.specs.Prelude.{◌-◌, ◌++◌, length, take}

abbrev pub ghost-of_values : goal.ghost-of_values
ghost-of_values g a =
    let old = (g.F.Disk.device a.second.now.value).medium.loose in
    let new = (g.F.Disk.device a.third.now).medium.loose in
    take (length new - length old) new ++ a.first.now.writes

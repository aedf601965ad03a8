use Rattle.alloc_drills.proofs.sets.drill.Given as goal
use Rattle.lz_disk.specs.Records.{device_of}

abbrev pub ghosts-ask : goal.ghosts-ask
ghosts-ask g a = record { board = a.blank.board; first = device_of a.blank.disk; format = a.blank.yard.vault.format }

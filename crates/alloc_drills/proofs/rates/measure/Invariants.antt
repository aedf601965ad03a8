use Rattle.alloc_drills.proofs.rates.measure.Given as goal
use Rattle.lz_disk.specs.Records.{device_of}

abbrev pub ghosts-look_at : goal.ghosts-look_at
ghosts-look_at g a = record { board = a.blank.board; first = device_of a.blank.disk; format = a.blank.yard.vault.format }

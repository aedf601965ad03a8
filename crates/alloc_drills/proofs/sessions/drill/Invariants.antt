use Rattle.alloc_drills.proofs.sessions.drill.Given as goal
use Rattle.lz_disk.specs.Records.{device_of}

abbrev pub ghosts-talk : goal.ghosts-talk
ghosts-talk g a = record { board = a.blank.board; first = device_of a.blank.disk; format = a.blank.yard.vault.format }

use Rattle.test_threads.proofs.drills.play_on.Given as goal
use Rattle.lz_disk.specs.Records.{device_of}

abbrev pub ghosts-play : goal.ghosts-play
ghosts-play g a = record { board = a.blank.board; first = device_of a.blank.disk; format = a.blank.yard.vault.format }

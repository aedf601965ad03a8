use Rattle.test_threads.proofs.counting.open_counting.Given as goal
use Rattle.lz_disk.specs.Records.{device_of}

abbrev pub ghosts-start_counting : goal.ghosts-start_counting
ghosts-start_counting g a = record { board = a.blank.board; first = device_of a.blank.disk; format = a.blank.yard.vault.format }

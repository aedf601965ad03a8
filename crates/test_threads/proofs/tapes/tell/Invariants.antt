use Rattle.test_threads.proofs.tapes.tell.Given as goal
use Rattle.lz_disk.specs.Records.{device_of}

abbrev pub ghosts-tell_by : goal.ghosts-tell_by
ghosts-tell_by g a = record { board = a.blank.board; first = device_of a.blank.disk; format = a.blank.yard.vault.format }

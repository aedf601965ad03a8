use Rattle.test_threads.proofs.threads.run.Given as goal
use Rattle.lz_disk.specs.Records.{device_of}

abbrev pub ghosts-share : goal.ghosts-share
ghosts-share g a = record { board = a.blank.board; first = device_of a.blank.disk; format = a.blank.yard.vault.format }

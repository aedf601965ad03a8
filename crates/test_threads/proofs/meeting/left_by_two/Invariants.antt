use Rattle.test_threads.proofs.meeting.left_by_two.Given as goal
use Rattle.lz_disk.specs.Records.{device_of}

abbrev pub ghosts-start_leaving : goal.ghosts-start_leaving
ghosts-start_leaving g a = record { board = a.blank.board; first = device_of a.blank.disk; format = a.blank.yard.vault.format }

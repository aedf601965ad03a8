use Rattle.test_threads.proofs.meeting.turns_of.Given as goal
use Rattle.lz_disk.specs.Records.{device_of}

abbrev pub ghosts-start_turns : goal.ghosts-start_turns
ghosts-start_turns g a = record { board = a.blank.board; first = device_of a.blank.disk; format = a.blank.yard.vault.format }

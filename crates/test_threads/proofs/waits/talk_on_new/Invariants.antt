use Rattle.test_threads.proofs.waits.talk_on_new.Given as goal
use Rattle.lz_disk.specs.Records.{device_of}

abbrev pub ghosts-talk_on : goal.ghosts-talk_on
ghosts-talk_on g a = record { board = a.blank.board; first = device_of a.blank.disk; format = a.blank.yard.vault.format }

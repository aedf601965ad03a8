use Rattle.test_commands.proofs.loops.serve_on.Given as goal
use Rattle.lz_disk.specs.Records.{device_of}

abbrev pub ghosts-serve_blank : goal.ghosts-serve_blank
ghosts-serve_blank g a = record { board = a.blank.board; first = device_of a.blank.disk; format = a.blank.yard.vault.format }

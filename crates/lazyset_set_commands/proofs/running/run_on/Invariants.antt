use Rattle.lazyset_set_commands.proofs.running.run_on.Given as goal

abbrev pub ghosts-run_blank : goal.ghosts-run_blank
ghosts-run_blank g a = record { board = a.blank.board; first = g.D.Disk.device a.blank.disk; format = a.blank.yard.vault.format }

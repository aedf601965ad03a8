use Rattle.lazyset_set_commands.proofs.serving.serve_on.Given as goal

abbrev pub ghosts-serve_blank : goal.ghosts-serve_blank
ghosts-serve_blank g a = record { board = a.blank.board; first = g.D.Disk.device a.blank.disk; format = a.blank.yard.vault.format }

use Rattle.example_duplicate_filter.proofs.filter_events.Given as goal

abbrev pub ghosts-filter : goal.ghosts-filter
ghosts-filter g a = record { board = a.blank.board; first = g.D.Disk.device a.blank.disk; format = a.blank.yard.vault.format }

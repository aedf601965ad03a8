use Rattle.test_threads.proofs.listing.open_quiet.Given as goal
use Rattle.lz_disk.specs.Records.{device_of}

abbrev pub ghosts-scan_quiet : goal.ghosts-scan_quiet
ghosts-scan_quiet g a = record { board = a.blank.board; first = device_of a.blank.disk; format = a.blank.yard.vault.format }

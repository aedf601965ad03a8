use Rattle.test_threads.proofs.listing.open_busy.Given as goal
use Rattle.lz_disk.specs.Records.{device_of}

abbrev pub ghosts-scan_busy : goal.ghosts-scan_busy
ghosts-scan_busy g a = record { board = a.blank.board; first = device_of a.blank.disk; format = a.blank.yard.vault.format }

use Rattle.test_threads.proofs.values.scene_of.Given as goal
use Rattle.lz_disk.specs.Records.{device_of}

abbrev pub ghosts-start_scene : goal.ghosts-start_scene
ghosts-start_scene g a = record { board = a.blank.board; first = device_of a.blank.disk; format = a.blank.yard.vault.format }

use Rattle.lz_refinement.proofs.playing.play_joined.Given as goal
use Rattle.lz_board.specs.Notes.{stamp_of}

abbrev pub ghost-stamp : goal.ghost-stamp
ghost-stamp g a = stamp_of a.what.now (g.D.Disk.device a.yard.now.disk).moment

use Rattle.test_threads.proofs.glancing.watch.Given as goal
use Rattle.lz_board.specs.Seats.{id_of}
use Rattle.test_threads.specs.NineFound.{MayLook}

abbrev pub invariant-loop-stores : goal.invariant-loop-stores
invariant-loop-stores l = MayLook (id_of l.board) l.pass

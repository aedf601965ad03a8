use Rattle.test_threads.proofs.glancing.look_until.Given as goal
use Rattle.lz_board.specs.Seats.{id_of}
use Rattle.test_threads.specs.NineFound.{MayLook}

abbrev pub invariant-loop : goal.invariant-loop
invariant-loop l = MayLook (id_of l.board) l.pass

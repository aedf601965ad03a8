use Rattle.lz_serve.proofs.pass_thread.serve_client.Given as goal
use Rattle.lz_list.specs.Traces.{Begins}
use Rattle.lz_board.specs.Seats.{part}

abbrev pub invariant-turns : goal.invariant-turns
invariant-turns g l = Begins l.client.seen (part l.free.pass).known

use Rattle.lz_serve.proofs.answering.answer_one.Given as goal
use Rattle.lz_board.specs.Seats.{part}
use Rattle.lz_serve.specs.Clients.{HaveSeenIn, KeepsAwaited}

abbrev pub invariant-requests : goal.invariant-requests
invariant-requests g l = record {
  kept : KeepsAwaited l.fn.crowd l.crowd;
  seen : HaveSeenIn l.crowd (part l.free.pass).known;
}

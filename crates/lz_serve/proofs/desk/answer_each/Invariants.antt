use Rattle.lz_serve.proofs.desk.answer_each.Given as goal
use Rattle.lz_board.specs.Seats.{part}
use Rattle.lz_serve.specs.Clients.{HaveSeenIn, KeepsAwaited}

abbrev pub invariant-places : goal.invariant-places
invariant-places g l = record {
  kept : KeepsAwaited l.fn.crowd l.crowd;
  seen : HaveSeenIn l.crowd (part l.free.pass).known;
}

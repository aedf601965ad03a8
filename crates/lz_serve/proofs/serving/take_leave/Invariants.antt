use Rattle.lz_serve.proofs.serving.take_leave.Given as goal
use Rattle.lz_serve.specs.Clients.{Keeps}

abbrev pub invariant-turns : goal.invariant-turns
invariant-turns g l = Keeps l.fn.crowd l.crowd

use Rattle.lz_serve.proofs.crowd.Crowd.tell_refused.Given as goal
use Rattle.lz_serve.specs.Clients.{Keeps}

abbrev pub invariant-loop-token : goal.invariant-loop-token
invariant-loop-token g l = Keeps l.fn.self l.self

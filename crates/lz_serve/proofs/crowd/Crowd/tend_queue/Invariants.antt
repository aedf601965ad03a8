use Rattle.lz_serve.proofs.crowd.Crowd.tend_queue.Given as goal
use Rattle.lz_serve.specs.Clients.{Keeps}

abbrev pub invariant-loop : goal.invariant-loop
invariant-loop g l = Keeps l.fn.self l.self

use Rattle.lz_serve.proofs.crowd.Crowd.stop.Given as goal
use Rattle.lz_serve.proofs.RefusedCrowds.{Refused}

abbrev pub invariant-loop-token : goal.invariant-loop-token
invariant-loop-token g l = Refused l.token l.fn.self l.self

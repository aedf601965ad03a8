use Rattle.lz_serve.proofs.serving.listen.Given as goal
use Rattle.lz_serve.specs.Clients.{Keeps}

abbrev pub invariant-loop-one : goal.invariant-loop-one
invariant-loop-one g l = Keeps l.fn.crowd l.crowd

use Rattle.lz_serve.proofs.client.Client.write.Given as goal
use Rattle.lz_serve.specs.Clients.{KeepsLines}

abbrev pub invariant-tries : goal.invariant-tries
invariant-tries g l = KeepsLines l.fn.self l.self

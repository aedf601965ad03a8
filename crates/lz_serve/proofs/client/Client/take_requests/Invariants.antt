use Rattle.lz_serve.proofs.client.Client.take_requests.Given as goal
use Rattle.lz_serve.specs.Clients.{KeepsLines}

abbrev pub invariant-requests : goal.invariant-requests
invariant-requests g l = KeepsLines l.fn.self l.self

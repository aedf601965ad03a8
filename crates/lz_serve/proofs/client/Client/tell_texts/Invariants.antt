use Rattle.lz_serve.proofs.client.Client.tell_texts.Given as goal
use Rattle.std.specs.Prelude.{length}
use Rattle.lz_serve.specs.Clients.{KeepsLines}

abbrev pub invariant-turns : goal.invariant-turns
invariant-turns g l = KeepsLines l.fn.self l.self

abbrev pub decreases-turns : goal.decreases-turns
decreases-turns g l = length l.self.turns

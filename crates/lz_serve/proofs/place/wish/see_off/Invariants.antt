use Rattle.lz_serve.proofs.place.wish.see_off.Given as goal
use Rattle.lz_serve.specs.Clients.{KeepsLines}

abbrev pub invariant-loop : goal.invariant-loop
invariant-loop g l = KeepsLines l.fn.client l.client

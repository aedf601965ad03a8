use Rattle.lz_serve.proofs.crowd.Crowd.tend_back.Given as goal
use Rattle.std.specs.Prelude.{◌≡◌}
use Rattle.lz_serve.specs.Clients.{Keeps}

abbrev pub invariant-loop : goal.invariant-loop
invariant-loop g l = record { kept : Keeps l.fn.self l.self; begun : l.self.begun ≡ l.fn.self.begun }

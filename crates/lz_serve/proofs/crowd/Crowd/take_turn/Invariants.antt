use Rattle.lz_serve.proofs.crowd.Crowd.take_turn.Given as goal
use Rattle.std.specs.Prelude.{◌≡◌, length}
use Rattle.lz_serve.{specs.Clients.{Keeps}, proofs.Turns.{Passed}}

abbrev pub invariant-turns : goal.invariant-turns
invariant-turns g l = record { kept : Keeps l.fn.self l.self; passed : Passed l.fn.self l.self; begun : l.self.begun ≡ l.fn.self.begun }

abbrev pub decreases-turns : goal.decreases-turns
decreases-turns g l = length l.self.queue

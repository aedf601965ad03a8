use Rattle.lz_serve.proofs.desk.Desk.look_up.Given as goal
use Rattle.std.specs.Prelude.{◌≡◌}
use Rattle.lz_serve.specs.Desks.{BeginsWithin}

abbrev pub invariant-loop-after : goal.invariant-loop-after
invariant-loop-after g l = record { given : l.self.given ≡ l.fn.self.given; within : BeginsWithin l.fn.self l.self }

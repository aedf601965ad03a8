use Rattle.lz_serve.proofs.desk.Desk.finish.Given as goal
use Rattle.std.specs.Prelude.{◌≡◌}

abbrev pub invariant-plays : goal.invariant-plays
invariant-plays g l = l.self.given ≡ l.fn.self.given

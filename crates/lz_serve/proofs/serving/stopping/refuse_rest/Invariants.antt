use Rattle.lz_serve.proofs.serving.stopping.refuse_rest.Given as goal
use Rattle.std.specs.Prelude.{◌≡◌}

abbrev pub invariant-turns : goal.invariant-turns
invariant-turns g l = l.desk.given ≡ l.fn.desk.given

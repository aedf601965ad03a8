use Rattle.lz_serve.proofs.line.is_awaited.Given as goal
use Rattle.std.specs.Prelude.{take}
use Rattle.lz_serve.specs.Lines.{IsFree}

abbrev pub invariant-loop-at : goal.invariant-loop-at
invariant-loop-at l = IsFree (take l.at l.under.items) l.key

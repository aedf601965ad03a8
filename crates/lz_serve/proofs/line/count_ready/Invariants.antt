use Rattle.lz_serve.proofs.line.count_ready.Given as goal
use Rattle.std.specs.Prelude.{take}
use Rattle.lz_serve.specs.Lines.{AreReplied}

abbrev pub invariant-loop-at : goal.invariant-loop-at
invariant-loop-at l = AreReplied (take l.at l.under.items)

use Rattle.lz_rehearsal.proofs.rehearsal.rehearse.Given as goal
use Rattle.std.proofs.Common.{take}
use Rattle.lz_rehearsal.specs.Rehearsals.{Rehearses}

abbrev pub invariant-loop-before : goal.invariant-loop-before
invariant-loop-before g l = record {
  rehearsed : Rehearses l.fn.world (take l.before l.lines) l.world (g.W.Write.contents l.fn.writer) (g.W.Write.contents l.writer);
}

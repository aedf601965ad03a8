use Rattle.lz_rehearsal.proofs.script.read_lines.Given as goal
use Rattle.std.proofs.Common.{length}
use Rattle.lz_rehearsal.proofs.Scripting.{Leaves}

abbrev pub invariant-loop-end : goal.invariant-loop-end
invariant-loop-end l = Leaves l.text l.rest l.lines.items

abbrev pub decreases-loop-end : goal.decreases-loop-end
decreases-loop-end l = length l.rest

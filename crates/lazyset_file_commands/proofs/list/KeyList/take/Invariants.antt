use Rattle.lazyset_file_commands.proofs.list.KeyList.take.Given as goal
use Rattle.std.proofs.Common.{length}
use Rattle.lazyset_file_commands.proofs.ListPieces.{Within}

abbrev pub invariant-loop-end : goal.invariant-loop-end
invariant-loop-end l = Within l.initial.self l.piece l.self l.rest

abbrev pub decreases-loop-end : goal.decreases-loop-end
decreases-loop-end l = length l.rest

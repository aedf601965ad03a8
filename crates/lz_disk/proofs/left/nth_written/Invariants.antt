use Rattle.lz_disk.proofs.left.nth_written.Given as goal
use Rattle.std.proofs.Common.{◌-◌, length}
use Rattle.lz_disk.proofs.NthWrites.{IsChoosing}

abbrev pub invariant-loop-index : goal.invariant-loop-index
invariant-loop-index l = IsChoosing l.changes l.number l.at l.byte l.index l.choice.times l.choice.byte

abbrev pub decreases-loop-index : goal.decreases-loop-index
decreases-loop-index l = length l.changes - l.index

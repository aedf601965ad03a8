use Rattle.lz_disk.proofs.left.left_at_nth.Given as goal
use Rattle.std.proofs.Common.{◌-◌, length}
use Rattle.lz_disk.proofs.NthWrites.{IsNumbering}

abbrev pub invariant-loop-at : goal.invariant-loop-at
invariant-loop-at l = IsNumbering l.changes l.number l.at l.seen l.text.items

abbrev pub decreases-loop-at : goal.decreases-loop-at
decreases-loop-at l = length l.seen - l.at

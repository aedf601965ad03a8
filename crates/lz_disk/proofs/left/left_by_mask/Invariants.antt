use Rattle.lz_disk.proofs.left.left_by_mask.Given as goal
use Rattle.std.proofs.Common.{◌-◌, length}
use Rattle.lz_disk.{specs.Picks.{with_mask}, proofs.PartImages.{IsMade}}

abbrev pub invariant-loop-at : goal.invariant-loop-at
invariant-loop-at l = IsMade (with_mask l.mask l.at) (with_mask l.mask 0 l.sure l.seen) l.seen l.at l.text.items

abbrev pub decreases-loop-at : goal.decreases-loop-at
decreases-loop-at l = length l.seen - l.at

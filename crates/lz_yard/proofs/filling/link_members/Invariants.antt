use Rattle.lz_yard.proofs.filling.link_members.Given as goal
use Rattle.std.proofs.Common.{length}
use Rattle.lz_yard.{specs.Filling.{with_members}, proofs.Opening.LinkedMembers.{Links}}

abbrev pub invariant-loop-key : goal.invariant-loop-key
invariant-loop-key l = Links l.members.items l.words (with_members l.fn.found.items l.fn.words)

abbrev pub decreases-loop-key : goal.decreases-loop-key
decreases-loop-key l = length l.members.items

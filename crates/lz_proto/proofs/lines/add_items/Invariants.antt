use Rattle.lz_proto.proofs.lines.add_items.Given as goal
use Rattle.std.proofs.Common.{◌≡◌, List, ◌++◌, length}
use Rattle.lz_proto.{specs.declared.item.Item.{Item}, proofs.Texts.{GoesOn}}

abbrev pub invariant-loop-end : goal.invariant-loop-end
invariant-loop-end l = (told : List Item) × (l.items.items ≡ l.initial.items.items ++ told) × GoesOn l.text told l.rest

abbrev pub decreases-loop-end : goal.decreases-loop-end
decreases-loop-end l = length l.rest

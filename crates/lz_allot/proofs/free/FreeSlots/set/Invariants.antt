use Rattle.lz_allot.proofs.free.FreeSlots.set.Given as goal
use Rattle.std.proofs.Common.{◌≡◌}
use Rattle.lz_allot.proofs.SetSlots.{IsHalfSet}

abbrev pub invariant-loop-node : goal.invariant-loop-node
invariant-loop-node l = record {
  first : l.self-inside.first ≡ l.initial.self-inside.first;
  slots : l.self-inside.slots ≡ l.initial.self-inside.slots;
  half : IsHalfSet l.initial.self-inside.words.items l.self-inside.words.items l.initial.self-inside.first l.initial.self-inside.slots l.fn.slot l.fn.is_free l.node;
}

abbrev pub decreases-loop-node : goal.decreases-loop-node
decreases-loop-node l = l.node

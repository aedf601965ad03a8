use Rattle.lz_allot.specs.declared.kind.Kind.TheVariants as kind
use Rattle.lz_allot.proofs.kind.first_kinds.Given as goal
use Rattle.std.proofs.Common.{◌≡◌, take}
use Rattle.lz_allot.specs.Allots.{set_each}

abbrev pub invariant-loop-slot : goal.invariant-loop-slot
invariant-loop-slot l = l.kinds.items ≡ set_each l.initial.kinds.items (take l.slot-index l.taken) kind.Taken

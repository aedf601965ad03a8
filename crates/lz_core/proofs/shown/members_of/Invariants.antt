use Rattle.lz_core.proofs.shown.members_of.Given as goal
use Rattle.std.proofs.Common.{◌≡◌, ◌↔◌, ℕ, true}
use Rattle.lz_slot.specs.Sets.{members}
use Rattle.lz_core.specs.Worlds.{Ascend, IsAmong}

abbrev pub invariant-loop-index : goal.invariant-loop-index
invariant-loop-index l = Ascend l.keys.items × ((k : ℕ) → (members l.keys.items k ≡ true) ↔ IsAmong l.yard.yard.words l.index k)

use Rattle.lz_allot.proofs.allot.free_first.Goals as goal
use Rattle.std.proofs.{Common.{arith}, lemmas.List.{get_or-drop}}
use Rattle.lz_allot.proofs.FilledPlaces.{length-set_each}

pub set-requires : goal.set-requires
set-requires c = grind (arith, get_or-drop, length-set_each)

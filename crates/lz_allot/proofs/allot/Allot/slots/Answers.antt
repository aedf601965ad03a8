use Rattle.lz_allot.proofs.allot.Allot.slots.Goals as goal
use Rattle.std.proofs.Common.{arith}
use Rattle.lz_allot.proofs.ToldUses.{length_told}

pub returns-clause-count : goal.returns-clause-count
returns-clause-count c = grind (arith, length_told)

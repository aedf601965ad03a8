use Rattle.lz_allot.proofs.kind.first_kinds.Goals as goal
use Rattle.std.proofs.{Common.{arith}, lemmas.List.{length-replicate, take_all, get_or_read}}
use Rattle.lz_allot.proofs.FilledPlaces.{length-set_each, set_each_more}

pub index_mut-requires : goal.index_mut-requires
index_mut-requires c = grind (arith, length-set_each, length-replicate)

pub returns : goal.returns
returns c = grind (arith, take_all)

pub loop-slot-preserved : goal.loop-slot-preserved
loop-slot-preserved c = grind (arith, get_or_read, set_each_more)

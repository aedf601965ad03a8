use Rattle.alloc_drills.proofs.sets.look_for_each.Given as goal
use Rattle.lz_set.specs.Names.{MayCall}

abbrev pub invariant-loop-number : goal.invariant-loop-number
invariant-loop-number g l = MayCall g.N.Named.board l.pass

use Rattle.alloc_drills.proofs.rates.look_for.Given as goal
use Rattle.lz_set.specs.Names.{MayCall}

abbrev pub invariant-loop-look : goal.invariant-loop-look
invariant-loop-look g l = MayCall g.N.Named.board l.pass

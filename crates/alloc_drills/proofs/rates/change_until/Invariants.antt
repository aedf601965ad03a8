use Rattle.alloc_drills.proofs.rates.change_until.Given as goal
use Rattle.lz_set.specs.Names.{MayCall}

abbrev pub invariant-loop : goal.invariant-loop
invariant-loop g l = MayCall g.N.Named.board l.pass

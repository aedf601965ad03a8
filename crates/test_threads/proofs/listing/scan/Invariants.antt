use Rattle.test_threads.proofs.listing.scan.Given as goal
use Rattle.lz_set.specs.Names.{MayCall}

abbrev pub invariant-loop : goal.invariant-loop
invariant-loop g l = MayCall g.N.Named.board l.pass

use Rattle.test_threads.proofs.listing.scan_on.Given as goal
use Rattle.lz_set.specs.Names.{MayCall}

abbrev pub invariant-loop-round : goal.invariant-loop-round
invariant-loop-round g l = MayCall g.N.Named.board l.pass

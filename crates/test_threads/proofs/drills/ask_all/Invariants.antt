use Rattle.test_threads.proofs.drills.ask_all.Given as goal
use Rattle.lz_set.specs.Names.{MayCall}

abbrev pub invariant-loop-command : goal.invariant-loop-command
invariant-loop-command g l = MayCall g.N.Named.board l.pass

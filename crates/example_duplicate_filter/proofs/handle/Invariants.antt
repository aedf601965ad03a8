use Rattle.example_duplicate_filter.proofs.handle.Given as goal
use Rattle.lz_set.specs.Names.{MayCall}

abbrev pub invariant-loop-number : goal.invariant-loop-number
invariant-loop-number g l = MayCall g.N.Named.board l.pass

use Rattle.lz_set.proofs.set.Set.call.Given as goal
use Rattle.lz_board.specs.Seats.{IsOf, part}
use Rattle.lz_refinement.specs.Counting.{Counts}

abbrev pub invariant-loop : goal.invariant-loop
invariant-loop g l = record {
  pass : IsOf g.N.Named.board l.pass;
  counts : Counts g.N.Named.board l.fn.command g.N.Named.format (part l.fn.pass) l.call (part l.pass);
}

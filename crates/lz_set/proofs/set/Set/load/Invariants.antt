use Rattle.lz_set.proofs.set.Set.load.Given as goal
use Rattle.std.proofs.Common.{◌≡◌, Some}
use Rattle.lz_board.specs.Seats.{IsOf, part}
use Rattle.lz_yard.specs.Walking.{walk_of, with_look}
use Rattle.lz_refinement.specs.Counting.{CountsOn}

abbrev pub invariant-loop : goal.invariant-loop
invariant-loop g l = record {
  pass : IsOf g.N.Named.board l.pass;
  counts : CountsOn g.N.Named.board l.fn.caller (part l.fn.pass) (with_look l.caller l.walk.look) (part l.pass);
  steps : (part l.pass).steps ≡ (part l.fn.pass).steps;
  walks : walk_of (with_look l.caller l.walk.look) ≡ Some l.walk;
}

use Rattle.lz_set.proofs.set.Set.go_on.Given as goal
use Rattle.lz_machine.specs.declared.kind.Kind.TheVariants.{Sync}
use Rattle.lz_board.specs.Seats.{IsOf, part}
use Rattle.lz_refinement.specs.Counting.{CountsOn}
use Rattle.lz_set.specs.Stages.{StepsUnfailed}

abbrev pub invariant-loop : goal.invariant-loop
invariant-loop g l = record {
  pass : IsOf g.N.Named.board l.pass;
  steps : StepsUnfailed Sync (part l.fn.pass) (part l.pass);
  counts : CountsOn g.N.Named.board l.fn.call (part l.fn.pass) l.call (part l.pass);
}

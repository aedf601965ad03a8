use Rattle.lz_set.proofs.set.Set.walk.Given as goal
use Rattle.std.proofs.Common.{◌≡◌}
use Rattle.lz_machine.specs.{declared.event.Event.TheVariants.{Hop}, Calls.{event_at}, Orders.{shape_with}}
use Rattle.lz_board.specs.Seats.{IsOf, part}
use Rattle.lz_refinement.specs.Counting.{CountsOn}

abbrev pub invariant-loop : goal.invariant-loop
invariant-loop g l = record {
  pass : IsOf g.N.Named.board l.pass;
  counts : CountsOn g.N.Named.board l.fn.call (part l.fn.pass) l.call-inside.caller (part l.pass);
  steps : (part l.pass).steps ≡ (part l.fn.pass).steps;
  wants : event_at (shape_with l.call-inside.caller) l.call-inside.caller.command l.call-inside.caller.progress ≡ Hop l.word;
}

use Rattle.lz_set.proofs.set.Set.sync.Goals as goal
use Rattle.std.proofs.Common.{subst}
use Rattle.lz_machine.specs.Orders.{Calling}
use Rattle.lz_board.specs.Seats.{part}
use Rattle.lz_refinement.specs.Counting.{CountsOn}

pub returns-clause-counts : goal.returns-clause-counts
returns-clause-counts g c =
    subst (λ (k : Calling). CountsOn g.N.Named.board k (part c.args.pass.now) c.turn_on.new.caller (part c.turn_on.new.pass)) c.call.view_is c.turn_on.ensures.goes

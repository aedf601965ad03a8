use Rattle.lz_set.proofs.set.Set.invoke.Goals as goal
use Rattle.std.proofs.Common.{None, ap}
use Rattle.lz_machine.specs.{declared.kind.Kind.TheVariants.{Sync}, Orders.{Calling}}
use Rattle.lz_board.specs.Seats.{part}
use Rattle.lz_refinement.specs.Holds.{begins_with}
use Rattle.lz_set.{specs.Stages.{kind_of_step}, proofs.Plays.{begins_otherwise, call_without, one_without, plays_one, without_then}}

pub returns-clause-counts : goal.returns-clause-counts
returns-clause-counts g c = c.turn_on.ensures.goes c.args.command g.N.Named.format (part c.args.pass.now) c.begin-caller.ensures.counts

pub returns-then-is_some-clause-steps : goal.returns-then-is_some-clause-steps
returns-then-is_some-clause-steps g c = call_without g.N.Named.format c.args.command None (part c.args.pass.now) (part c.begin-caller.new.pass) c.begin-caller.ensures.holds.steps

pub returns-clause-steps : goal.returns-clause-steps
returns-clause-steps g c =
    let begun = part c.begin-caller.new.pass in
    let first = begins_with g.N.Named.format c.args.command in
    without_then kind_of_step Sync (part c.args.pass.now) begun (part c.turn_on.new.pass)
    (call_without g.N.Named.format c.args.command None (part c.args.pass.now) begun c.begin-caller.ensures.holds.steps)
    (one_without _ begun (part c.turn_on.new.pass) (begins_otherwise c.begin-caller.result first (ap (λ (k : Calling). k.progress) c.begin-caller.ensures.caller))
    (plays_one _ _ _ _ _ _ _ c.turn_on.ensures.advanced))

use Rattle.lz_serve.proofs.sight.look_at.Goals as goal
use Rattle.lz_board.specs.Seats.{part}
use Rattle.lz_serve.proofs.Sights.{glances_grow}

pub returns-in-Ok-Unsettled-clause-grows : goal.returns-in-Ok-Unsettled-clause-grows
returns-in-Ok-Unsettled-clause-grows g c = glances_grow c.args.key c.glance.result (part c.args.pass.now) (part c.glance.new.pass) c.glance.ensures.glances

pub returns-clause-grows : goal.returns-clause-grows
returns-clause-grows g c = glances_grow c.args.key c.glance.result (part c.args.pass.now) (part c.glance.new.pass) c.glance.ensures.glances

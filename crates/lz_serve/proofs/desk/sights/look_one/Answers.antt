use Rattle.lz_serve.proofs.desk.sights.look_one.Goals as goal
use Rattle.lz_board.specs.Seats.{part}
use Rattle.lz_serve.proofs.{Joins.{seen_later}, Sights.{looked_later}}

pub returns-clause-seen : goal.returns-clause-seen
returns-clause-seen g c =
    let K = (part c.look-sight.new.self.pass).known in
    c.see.ensures.kept.seen K (seen_later c.args.crowd.now (part c.args.meeting.now.pass).known K c.look-sight.ensures.grows c.requires)

pub see-requires : goal.see-requires
see-requires g c = looked_later c.look-sight.result c.args.key c.args.meeting.now.pass c.look-sight.new.self.pass c.args.crowd.now c.look-sight.ensures.sight c.requires

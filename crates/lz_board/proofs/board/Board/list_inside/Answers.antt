use Rattle.lz_board.proofs.board.Board.list_inside.Goals as goal
use Rattle.std.proofs.Common.{◌∙◌, subst}
use Rattle.lz_board.{specs.{Notes.{Since}, Seats.{part}}, proofs.Walk.{WalkerLemma.{since_trans}, GlanceAnswer.{unhalted_before}}}

pub returns-clause-shown : goal.returns-clause-shown
returns-clause-shown c =
    let h = part c.args.pass.now in
    since_trans h.number h.known (part c.look.new.pass).known (part c.list_slots.new.pass).known c.look.ensures.shown.since (subst (λ g. Since g.number (part c.list_slots.new.pass).known g.known) c.look.ensures.part c.list_slots.ensures.shown)

pub returns-clause-unhalted : goal.returns-clause-unhalted
returns-clause-unhalted c = unhalted_before (part c.args.pass.now).number (part c.args.pass.now).known (part c.look.new.pass).known c.look.ensures.shown.since (λ is. c.if-look-eq1.false (c.look.ensures.value ∙ is))

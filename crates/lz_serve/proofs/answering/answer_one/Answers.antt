use Rattle.lz_serve.proofs.answering.answer_one.Goals as goal
use Rattle.std.proofs.Common.{sym, subst, ◌∙◌}
use Rattle.lz_list.{specs.Traces.{Begins}, proofs.Traces.Absence.{begins_itself}}
use Rattle.lz_board.specs.{declared.pass.Pass.{Pass}, Seats.{part}}
use Rattle.lz_serve.{specs.Clients.{HaveSeenIn}, proofs.Joins.{seen_later}}

pub reply-requires-in-requests-clause-seen : goal.reply-requires-in-requests-clause-seen
reply-requires-in-requests-clause-seen g c =
    let before = (part c.requests.free.pass).known in
    let after = (part c.answer-granted.new.self.pass).known in
    subst (λ (p : Pass). HaveSeenIn c.take_last.new.self (part p).known) (sym c.pass-in-requests.ensures) (seen_later c.take_last.new.self before after c.answer-granted.ensures.grows (c.take_last.ensures.kept.seen before c.requests.invariant.seen))

pub reply-requires-in-requests-clause-after : goal.reply-requires-in-requests-clause-after
reply-requires-in-requests-clause-after g c =
    subst (λ (p : Pass). Begins (part c.answer-granted.result.after).known (part p).known) (c.answer-granted.ensures.granted.1 ∙ sym c.pass-in-requests.ensures) (begins_itself (part c.answer-granted.result.after).known)

use Rattle.lz_serve.proofs.pass_thread.serve_client.Goals as goal
use Rattle.std.proofs.Common.{◌≡◌, ap, sym, subst, ◌∙◌}
use Rattle.lz_list.{specs.Traces.{Trace, Begins}, proofs.Traces.{Absence.{begins_itself}, WalkEnd.{begins_before}}}
use Rattle.lz_board.specs.{declared.pass.Pass.{Pass}, Seats.{part}}
use Rattle.lz_serve.specs.Clients.{Asker}

pub reply-requires-in-Some-question-clause-seen : goal.reply-requires-in-Some-question-clause-seen
reply-requires-in-Some-question-clause-seen g c =
    let was = c.turns.client.seen in
    let before = (part c.turns.free.pass).known in
    let after = (part c.answer-granted.new.self.pass).known in
    let same : c.write.new.self.seen ≡ was = ap (λ (a : Asker). a.seen) c.write.ensures ∙ c.ask-question.ensures.seen in
    subst (λ (p : Pass). Begins c.write.new.self.seen (part p).known) (sym c.pass-in-Some-question.ensures) (subst (λ (t : Trace). Begins t after) (sym same) (begins_before was before after c.turns.invariant c.answer-granted.ensures.grows))

pub reply-requires-in-Some-question-clause-after : goal.reply-requires-in-Some-question-clause-after
reply-requires-in-Some-question-clause-after g c =
    subst (λ (p : Pass). Begins (part c.answer-granted.result.after).known (part p).known) (c.answer-granted.ensures.granted.1 ∙ sym c.pass-in-Some-question.ensures) (begins_itself (part c.answer-granted.result.after).known)

pub turns-preserved-in-Some-question : goal.turns-preserved-in-Some-question
turns-preserved-in-Some-question g c =
    let after = (part c.answer-granted.new.self.pass).known in
    let same : c.write-in-Some-question.new.self.seen ≡ after = ap (λ (a : Asker). a.seen) c.write-in-Some-question.ensures ∙ c.reply-in-Some-question.ensures.seen ∙ ap (λ (p : Pass). (part p).known) c.pass-in-Some-question.ensures in
    subst (λ (t : Trace). Begins t after) (sym same) (begins_itself after)

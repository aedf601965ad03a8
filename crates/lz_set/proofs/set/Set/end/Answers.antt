use Rattle.lz_set.proofs.set.Set.end.Goals as goal
use Rattle.std.proofs.Common.{sym, ap, ◌∙◌, subst}
use Rattle.lz_machine.specs.{declared.event.Reply.{Reply}, Orders.{Calling}, Runs.{reply_at}}
use Rattle.lz_board.specs.Seats.{part}
use Rattle.lz_refinement.specs.{Answers.{Answers}, Counting.{Counts}, OneCaller.{IsPlainAnswer, keys_in}}
use Rattle.lz_set.proofs.Plays.{answers_otherwise, one_without, plays_one}

pub returns-clause-answers : goal.returns-clause-answers
returns-clause-answers g c = λ asked format before sized counts.
    subst (λ (r : Reply). Answers format asked r before (part c.answer.new.pass)) (sym c.answer_of.ensures)
    (c.answer.ensures.answers asked format before sized
    (subst (λ (k : Calling). Counts g.N.Named.board asked format before k (part c.args.pass.now)) (sym c.call.view_is) counts))

pub returns-clause-plain : goal.returns-clause-plain
returns-clause-plain g c = λ one asked format before sized counts.
    subst (λ (r : Reply). IsPlainAnswer format g.N.Named.board.sizes.slots asked r (keys_in before.known) (keys_in (part c.answer.new.pass).known)) (sym c.answer_of.ensures)
    (c.answer.ensures.plain one asked format before sized
    (subst (λ (k : Calling). Counts g.N.Named.board asked format before k (part c.args.pass.now)) (sym c.call.view_is) counts))

pub returns-clause-steps : goal.returns-clause-steps
returns-clause-steps g c =
    let stands = c.requires.stands in
    one_without _ (part c.args.pass.now) (part c.answer.new.pass) (answers_otherwise c.call.inside.caller stands.0 (ap (λ (k : Calling). reply_at k.progress) c.call.view_is ∙ stands.1))
    (plays_one _ _ _ _ _ _ _ c.answer.ensures.advanced)

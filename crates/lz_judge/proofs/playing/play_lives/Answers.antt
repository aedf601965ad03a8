use Rattle.lz_judge.proofs.playing.play_lives.Goals as goal
use Rattle.std.proofs.{Common.{sym, subst, arith, ◌∙◌, List, take, ◌+◌, reverse}, lemmas.List.{length-reverse, length-take, take_all}}
use Rattle.lz_slot.specs.declared.history.HistoryEvent.{HistoryEvent}
use Rattle.lz_judge.{specs.Plays.{Compared, IsKnown, Played, Ran}, proofs.Readings.{NextMark.{newest_more}, CallTurn.{known_so_far, played_all}}}
use Rattle.lz_judge.proofs.Lives.WrongAnswer.{opens_within, wrong_all}

pub loop-mark-preserved : goal.loop-mark-preserved
loop-mark-preserved c =
    let more = newest_more c.args.marks.now c.loop-mark.mark-index c.mark-item.result c.loop-mark-test.true c.mark-item.is in
    let known = subst (IsKnown c.args.places.now c.args.answers.now) more (known_so_far c.args.places.now c.args.answers.now c.args.marks.now (c.loop-mark.mark-index + 1) c.requires) in
    let M = reverse (take c.loop-mark.mark-index c.args.marks.now) in
    record {
      played = subst (λ (M : List HistoryEvent). Played c.args.places.now M c.note.new.self.set c.note.new.self.life c.note.new.self.wrong_reply c.note.new.self.wrong_set) (sym more)
          (c.in_ok-note.ensures.played M known c.loop-mark.invariant.played);
      compared = subst (λ (M : List HistoryEvent). Compared c.args.places.now M c.note.new.self.opens c.note.new.self.wrong_set) (sym more)
          (c.in_ok-note.ensures.compared M known c.loop-mark.invariant.played c.loop-mark.invariant.ran c.loop-mark.invariant.compared
          (let few = opens_within M in let count = length-reverse (take c.loop-mark.mark-index c.args.marks.now) in let taken = length-take c.loop-mark.mark-index c.args.marks.now in omega (arith, few, count, taken)));
      ran = subst (λ (M : List HistoryEvent). Ran c.args.places.now c.args.answers.now M c.note.new.self.set c.note.new.self.wrong_reply) (sym more)
          (c.in_ok-note.ensures.ran M known c.loop-mark.invariant.played c.loop-mark.invariant.ran);
    }

pub returns-clause-chain : goal.returns-clause-chain
returns-clause-chain c = λ no_reply no_set.
    let whole = take_all c.loop-mark.mark-index c.args.marks.now c.loop-mark-test.false in
    let before = subst (λ (marks : List HistoryEvent). Played c.args.places.now (reverse marks) c.loop-mark.play.set c.loop-mark.play.life c.loop-mark.play.wrong_reply c.loop-mark.play.wrong_set) whole c.loop-mark.invariant.played in
    played_all c.args.places.now c.args.answers.now (reverse c.args.marks.now) c.requires c.loop-mark.play.set c.loop-mark.play.life c.loop-mark.play.wrong_reply c.loop-mark.play.wrong_set before
    c.in_ok-finish.ensures.ordered c.finish.new.self.set c.finish.new.self.wrong_reply (c.in_ok-finish.ensures.runs before.now before.is_set) no_reply (sym c.in_ok-finish.ensures.wrong_set ∙ no_set)

pub returns-clause-wrong : goal.returns-clause-wrong
returns-clause-wrong c =
    let whole = take_all c.loop-mark.mark-index c.args.marks.now c.loop-mark-test.false in
    let before = subst (λ (marks : List HistoryEvent). Played c.args.places.now (reverse marks) c.loop-mark.play.set c.loop-mark.play.life c.loop-mark.play.wrong_reply c.loop-mark.play.wrong_set) whole c.loop-mark.invariant.played in
    let ran = subst (λ (marks : List HistoryEvent). Ran c.args.places.now c.args.answers.now (reverse marks) c.loop-mark.play.set c.loop-mark.play.wrong_reply) whole c.loop-mark.invariant.ran in
    wrong_all c.args.places.now c.args.answers.now (reverse c.args.marks.now) c.requires c.loop-mark.play.set c.loop-mark.play.life c.loop-mark.play.wrong_reply ran
    c.in_ok-finish.ensures.ordered before.is_life c.finish.new.self.set c.finish.new.self.wrong_reply (c.in_ok-finish.ensures.finds ran.now ran.is_set)

pub returns-clause-wrong_set : goal.returns-clause-wrong_set
returns-clause-wrong_set c = λ n is.
    let whole = take_all c.loop-mark.mark-index c.args.marks.now c.loop-mark-test.false in
    let compared = subst (λ (marks : List HistoryEvent). Compared c.args.places.now (reverse marks) c.loop-mark.play.opens c.loop-mark.play.wrong_set) whole c.loop-mark.invariant.compared in
    compared.set_is n (sym c.in_ok-finish.ensures.wrong_set ∙ is)

pub loop-mark-init : goal.loop-mark-init
loop-mark-init c = record {
  played = c.new-play.ensures.played c.args.places.now;
  compared = c.new-play.ensures.compared c.args.places.now;
  ran = c.new-play.ensures.ran c.args.places.now c.args.answers.now;
}

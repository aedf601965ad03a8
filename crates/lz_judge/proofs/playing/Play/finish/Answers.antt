use Rattle.lz_judge.proofs.playing.Play.finish.Goals as goal
use Rattle.std.proofs.Common.{sym, subst, refl, List, inl, inr, ⊎_elim}
use Rattle.lz_slot.specs.Sets.{after}
use Rattle.lz_judge.specs.{Plays.{Follows, Plays, WrongAt}, declared.playing.Listed.{Listed}}

pub loop-listed-preserved : goal.loop-listed-preserved
loop-listed-preserved c = record {
  runs = λ S is.
      let (now, is_now, fine) = c.loop-listed.invariant.runs S is in
      let (is_set, why) = c.in_ok-self.ensures.plays now is_now in (
        after c.in-Some.listed.now.command now,
        is_set,
        λ none.
            let (was, told) = why none in
            let (first, rest) = fine was in
            (first, λ T plays. rest T (subst (λ (l : List Listed). Plays c.args.answers.now l now T) (sym c.in-Some.ensures.steps) (told, plays))),
      );
  finds = λ S is.
      let (now, is_now, follows, wrong, found) = c.loop-listed.invariant.finds S is in
      let (is_set, why) = c.in_ok-self.ensures.plays now is_now in (
        after c.in-Some.listed.now.command now,
        is_set,
        λ T rest. follows T (subst (λ (l : List Listed). Follows l now T) (sym c.in-Some.ensures.steps) rest),
        λ i rest. wrong i (subst (λ (l : List Listed). WrongAt c.args.answers.now l now i) (sym c.in-Some.ensures.steps) (inr rest)),
        λ i is_i. ⊎_elim
            (λ was. found i was)
            (λ here. inr (wrong i (subst (λ (l : List Listed). WrongAt c.args.answers.now l now i) (sym c.in-Some.ensures.steps) (inl here))))
            (c.in_ok-self.ensures.finds now is_now i is_i),
      );
  life = c.loop-listed.invariant.life;
  opens = c.loop-listed.invariant.opens;
  wrong_set = c.loop-listed.invariant.wrong_set;
}

pub loop-listed-init : goal.loop-listed-init
loop-listed-init c = record {
  runs = λ S is. (S, is, λ none. (none, λ T plays. plays));
  finds = λ S is. (S, is, λ T rest. rest, λ i wrong. wrong, λ i was. inl was);
  life = refl;
  opens = refl;
  wrong_set = refl;
}

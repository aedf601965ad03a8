use Rattle.lz_set.proofs.set.Set.load.Goals as goal
use Rattle.std.proofs.Common.{refl, sym, ◌∙◌, subst}
use Rattle.lz_board.specs.Seats.{BoardId, IsOf, part}
use Rattle.lz_yard.specs.Walking.{with_look}
use Rattle.lz_refinement.specs.Counting.{CountsOn, IsCounted}

pub load_next-requires-clause-counted : goal.load_next-requires-clause-counted
load_next-requires-clause-counted g c = subst (λ (b : BoardId). IsCounted b c.args.caller.now (part c.args.pass.now)) (sym c.args.self.now.named) c.requires.counted

pub returns-in_default-clause-counts : goal.returns-in_default-clause-counts
returns-in_default-clause-counts g c =
    subst (λ (b : BoardId). CountsOn b c.args.caller.now (part c.args.pass.now) c.load_next.new.caller (part c.load_next.new.pass)) c.args.self.now.named c.load_next.ensures.goes

pub walk_on-goes_on-requires-clause-counted : goal.walk_on-goes_on-requires-clause-counted
walk_on-goes_on-requires-clause-counted g c =
    let was = c.requires.counted in
    subst (λ (b : BoardId). IsCounted b (with_look c.loop.caller c.loop.walk.look) (part c.loop.pass)) (sym c.args.self.now.named) (was.0, was.1, was.2, c.loop.invariant.counts was.0 was.1 was.2 was.3)

pub returns-then-not-goes_on-clause-counts : goal.returns-then-not-goes_on-clause-counts
returns-then-not-goes_on-clause-counts g c = λ asked format before counts.
    subst (λ (b : BoardId). CountsOn b (with_look c.loop.caller c.loop.walk.look) (part c.loop.pass) c.walk_on-goes_on.new.caller (part c.walk_on-goes_on.new.pass)) c.args.self.now.named c.if-not-goes_on.ensures.goes
    asked format before (c.loop.invariant.counts asked format before counts)

pub loop-preserved : goal.loop-preserved
loop-preserved g c = record {
  pass = subst (λ (b : BoardId). IsOf b c.walk_on-goes_on.new.pass) c.args.self.now.named c.walk_on-goes_on.ensures.pass;
  counts = λ asked format before counts.
      subst (λ (b : BoardId). CountsOn b (with_look c.loop.caller c.loop.walk.look) (part c.loop.pass) (with_look c.walk_on-goes_on.new.caller c.walk_on-goes_on.new.walk.look) (part c.walk_on-goes_on.new.pass))
      c.args.self.now.named c.if-not-goes_on.ensures.goes asked format before (c.loop.invariant.counts asked format before counts);
  steps = c.walk_on-goes_on.ensures.steps ∙ c.loop.invariant.steps;
  walks = c.if-not-goes_on.ensures.walk refl;
}

use Rattle.lz_set.proofs.set.Set.call.Goals as goal
use Rattle.std.proofs.Common.{sym, subst}
use Rattle.lz_machine.specs.Orders.{Calling}
use Rattle.lz_board.specs.Seats.{part}
use Rattle.lz_refinement.specs.Counting.{Counts}

pub sync_for_all-requires-clause-counted : goal.sync_for_all-requires-clause-counted
sync_for_all-requires-clause-counted g c =
    let asked = c.args.command in
    let before = part c.args.pass.now in
    (asked, g.N.Named.format, before, c.go_on.ensures.counts asked g.N.Named.format before c.loop.invariant.counts)

pub loop-preserved-in-Syncs : goal.loop-preserved-in-Syncs
loop-preserved-in-Syncs g c =
    let asked = c.args.command in
    let format = g.N.Named.format in
    let before = part c.args.pass.now in
    record {
      pass = c.sync_for_all.ensures.pass;
      counts = c.sync_for_all.ensures.counts asked format before (c.go_on.ensures.counts asked format before c.loop.invariant.counts);
    }

pub loop-preserved : goal.loop-preserved
loop-preserved g c =
    let asked = c.args.command in
    let format = g.N.Named.format in
    let before = part c.args.pass.now in
    record {
      pass = c.go_on.ensures.pass;
      counts = subst (λ (k : Calling). Counts g.N.Named.board asked format before k (part c.go_on.new.pass)) (sym c.call.view_is)
          (c.go_on.ensures.counts asked format before c.loop.invariant.counts);
    }

pub end-answer-requires-clause-counted : goal.end-answer-requires-clause-counted
end-answer-requires-clause-counted g c =
    let asked = c.args.command in
    let before = part c.args.pass.now in
    (asked, g.N.Named.format, before, c.go_on.ensures.counts asked g.N.Named.format before c.loop.invariant.counts)

pub returns-in-Answers-clause-answers : goal.returns-in-Answers-clause-answers
returns-in-Answers-clause-answers g c =
    let asked = c.args.command in
    let format = g.N.Named.format in
    let before = part c.args.pass.now in
    c.end-answer.ensures.answers asked format before c.requires.pass.0.2.sized (c.go_on.ensures.counts asked format before c.loop.invariant.counts)

pub returns-in-Answers-clause-plain : goal.returns-in-Answers-clause-plain
returns-in-Answers-clause-plain g c = λ one.
    let asked = c.args.command in
    let format = g.N.Named.format in
    let before = part c.args.pass.now in
    c.end-answer.ensures.plain one asked format before c.requires.pass.0.2.sized (c.go_on.ensures.counts asked format before c.loop.invariant.counts)

use Rattle.lz_judge.proofs.listing.refused_listed.Goals as goal
use Rattle.std.proofs.Common.{List, sym, subst, take, reverse, take_all}
use Rattle.lz_slot.specs.declared.history.HistoryEvent.{HistoryEvent}
use Rattle.lz_judge.{specs.Readings.{RefusedOnes}, proofs.Readings.NextMark.{newest_more}}

pub loop-mark-preserved : goal.loop-mark-preserved
loop-mark-preserved c =
    subst (λ (M : List HistoryEvent). RefusedOnes M c.args.places.now c.with_refused-least.result) (sym (newest_more c.args.marks.now c.loop-mark.mark-index c.mark-item.result c.loop-mark-test.true c.mark-item.is))
    (c.with_refused-least.ensures (reverse (take c.loop-mark.mark-index c.args.marks.now)) c.loop-mark.invariant)

pub returns : goal.returns
returns c =
    subst (λ (marks : List HistoryEvent). RefusedOnes (reverse marks) c.args.places.now c.loop-mark.least) (take_all c.loop-mark.mark-index c.args.marks.now c.loop-mark-test.false) c.loop-mark.invariant

use Rattle.lz_judge.proofs.listing.unlisted.Goals as goal
use Rattle.std.proofs.Common.{List, sym, subst, take, reverse, take_all}
use Rattle.lz_slot.specs.declared.history.HistoryEvent.{HistoryEvent}
use Rattle.lz_judge.{specs.Readings.{UnlistedOnes}, proofs.Readings.NextMark.{newest_more}}

pub loop-mark-preserved : goal.loop-mark-preserved
loop-mark-preserved c =
    subst (λ (M : List HistoryEvent). UnlistedOnes M c.args.places.now c.with_answered-least.result) (sym (newest_more c.args.marks.now c.loop-mark.mark-index c.mark-item.result c.loop-mark-test.true c.mark-item.is))
    (c.with_answered-least.ensures (reverse (take c.loop-mark.mark-index c.args.marks.now)) c.loop-mark.invariant)

pub returns : goal.returns
returns c =
    subst (λ (marks : List HistoryEvent). UnlistedOnes (reverse marks) c.args.places.now c.loop-mark.least) (take_all c.loop-mark.mark-index c.args.marks.now c.loop-mark-test.false) c.loop-mark.invariant

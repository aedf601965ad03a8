use Rattle.lz_judge.proofs.census.take_census.Goals as goal
use Rattle.std.proofs.Common.{List, sym, subst, take, reverse, take_all}
use Rattle.lz_slot.specs.declared.history.HistoryEvent.{HistoryEvent}
use Rattle.lz_judge.{specs.Readings.{IsCensus}, proofs.Readings.NextMark.{newest_more}}

pub loop-mark-preserved : goal.loop-mark-preserved
loop-mark-preserved c =
    subst (λ (M : List HistoryEvent). IsCensus M c.note.new.self.calls c.note.new.self.answers) (sym (newest_more c.args.marks.now c.loop-mark.mark-index c.mark-item.result c.loop-mark-test.true c.mark-item.is))
    (c.in_ok-note.ensures (reverse (take c.loop-mark.mark-index c.args.marks.now)) c.loop-mark.invariant)

pub returns : goal.returns
returns c =
    subst (λ (marks : List HistoryEvent). IsCensus (reverse marks) c.loop-mark.census.calls c.loop-mark.census.answers) (take_all c.loop-mark.mark-index c.args.marks.now c.loop-mark-test.false) c.loop-mark.invariant

use Rattle.lz_judge.proofs.ordering.misordered.Goals as goal
use Rattle.std.proofs.Common.{sym, subst, List, take, ◌+◌, reverse}
use Rattle.lz_slot.specs.declared.history.HistoryEvent.{HistoryEvent}
use Rattle.lz_judge.{specs.{Records.{IsLawful}, Readings.{Floored}}, proofs.{Lives.LawfulHistory.{lawful_so_far}, Readings.NextMark.{newest_more}}}

pub loop-mark-init : goal.loop-mark-init
loop-mark-init c = c.new-floor.ensures c.args.places.now

pub loop-mark-preserved : goal.loop-mark-preserved
loop-mark-preserved c =
    let more = newest_more c.args.marks.now c.loop-mark.mark-index c.mark-item.result c.loop-mark-test.true c.mark-item.is in
    subst (λ (M : List HistoryEvent). Floored M c.args.places.now c.note.new.self.floor c.note.new.self.top c.note.new.self.used c.note.new.self.least) (sym more)
    (c.in_ok-note.ensures (reverse (take c.loop-mark.mark-index c.args.marks.now))
    (subst IsLawful more (lawful_so_far c.args.marks.now (c.loop-mark.mark-index + 1) c.requires.lawful)) c.loop-mark.invariant)

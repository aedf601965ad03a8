use Rattle.lz_rehearsal.proofs.telling.write_marks.Goals as goal
use Rattle.std.proofs.Common.{sym}
use Rattle.lz_rehearsal.proofs.Appending.{marks_next}

pub loop-mark-preserved : goal.loop-mark-preserved
loop-mark-preserved g c =
    let kept = g.W.Write.contents in
    marks_next (kept c.args.writer.now) (kept c.loop-mark.writer) (kept c.write_mark.new.writer) c.args.marks.now c.loop-mark.mark-index c.mark-item.result
    c.loop-mark-test.true (sym c.mark-item.is) c.loop-mark.invariant c.in_ok-write_mark.ensures

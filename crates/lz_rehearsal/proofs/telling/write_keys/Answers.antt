use Rattle.lz_rehearsal.proofs.telling.write_keys.Goals as goal
use Rattle.std.proofs.Common.{sym}
use Rattle.lz_rehearsal.proofs.Appending.{keys_next}

pub loop-key-preserved : goal.loop-key-preserved
loop-key-preserved g c =
    let kept = g.W.Write.contents in
    keys_next (kept c.args.writer.now) (kept c.loop-key.writer) (kept c.write_key.new.writer) c.args.keys.now c.loop-key.key-index c.key-item.result
    c.loop-key-test.true (sym c.key-item.is) c.loop-key.invariant c.in_ok-write_key.ensures

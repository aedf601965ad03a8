use Rattle.lz_serve.proofs.line.count_ready.Goals as goal
use Rattle.std.proofs.Common.{arith}
use Rattle.lz_serve.proofs.ReadyLines.{all_ready, replied_more}

pub loop-at-preserved : goal.loop-at-preserved
loop-at-preserved c = replied_more c.args.under.now.items c.loop-at.at (c.is_replied.ensures.some c.if-not-is_replied.false) c.loop-at.invariant

pub returns : goal.returns
returns c = all_ready c.args.under.now.items c.loop-at.at c.len.result (omega (arith, c.loop-at-test.false, c.len-at-end.ensures)) (omega (arith, c.len.ensures)) c.loop-at.invariant

use Rattle.lz_serve.proofs.workers.fn.serve_shares.scope.Goals as goal
use Rattle.std.proofs.Common.{rules, ap, ◌∙◌, arith}
use Rattle.lz_serve.{specs.{declared.shares.HandsBack.{HandsBack}, Promised.{promised}}, proofs.RunningLoops.{one_more}}

pub loop-worker-preserved-in-Ok-push : goal.loop-worker-preserved-in-Ok-push
loop-worker-preserved-in-Ok-push g c =
    let before = c.loop-worker.invariant.0 in
    let joined = ap (λ threads. promised threads) c.in-Ok-push.ensures.items ∙ one_more c.loop-worker.threads.items c.in-Ok.thread in
    let count = ap (λ (h : HandsBack). h.count) c.in-Ok.ensures.ok ∙ c.len-count.ensures in
    let shared = c.take_share-share.ensures in
    (omega (arith, before, joined, count, shared), search rules, search rules)

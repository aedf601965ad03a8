use Rattle.lz_proto.proofs.conversation.send.Goals as goal
use Rattle.std.proofs.Common.{ℕ, List, ap, Bor}
use Rattle.lz_proto.proofs.{Bytes.{sent_more, sent_kept}, conversation.send.Goals.{in-Ok, in-Err+else-ne}}

pub tries-preserved : goal.tries-preserved
tries-preserved g c =
    let kept = g.W.Write.contents in
    let now = λ (r : Bor (List ℕ)). r.now in
    elim c.match-write.branch [
      | in-Ok w ↦ sent_more (kept c.args.writer.now) (kept c.tries.writer) (kept c.write.new.self) c.args.text.now c.tries.rest.now c.match-write.rest.now w.in-Ok.count
          c.tries.invariant w.in-Ok.ensures.bound (ap now w.rest-is) w.in-Ok.ensures.bytes
      | in-Err+else-ne w ↦ sent_kept (kept c.args.writer.now) (kept c.tries.writer) (kept c.write.new.self) c.args.text.now c.tries.rest.now c.match-write.rest.now
          c.tries.invariant (ap now w.rest-is) w.in-Err.ensures.bytes
    ]

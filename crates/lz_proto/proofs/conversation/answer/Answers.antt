use Rattle.lz_proto.proofs.conversation.answer.Goals as goal
use Rattle.std.proofs.Common.{◌∙◌, [], ◌∷◌, ap, rules}
use Rattle.lz_proto.{specs.Sessions.{Answered}, proofs.Serving.{fault_answered, item_cut, request_answered}}
use Rattle.lz_proto.proofs.conversation.answer.Goals.{After-send, in-Asks, in-Faulty}

-- the text answers the item
said : (g : _) (c : After-send g) → Answered g.S.Service.answers c.args.service.now (c.args.item ∷ []) c.match-item.service c.as_bytes.result.now c.match-item.end.1
said g c =
    let answers = g.S.Service.answers in
    elim c.match-item.branch [
      | in-Asks w ↦ rw (w.in-Asks.is, w.service-is) (rw (ap (λ e. e.1) w.end-is ∙ w.end_after.ensures)
          (request_answered answers c.args.service.now w.ask-reply.new.self w.in-Asks.request w.ask-reply.result c.as_bytes.result.now (search rules) w.ask-reply.ensures (c.as_bytes.ensures.value ∙ ap (λ e. e.0.now) w.end-is ∙ w.reply_text.ensures)))
      | in-Faulty w ↦ rw (w.in-Faulty.is, w.service-is) (rw (ap (λ e. e.1) w.end-is)
          (fault_answered answers c.args.service.now w.in-Faulty.bad c.as_bytes.result.now (c.as_bytes.ensures.value ∙ ap (λ e. e.0.now) w.end-is ∙ w.bad_text.ensures)))
    ]

pub returns-in-Ok : goal.returns-in-Ok
returns-in-Ok g c = (c.as_bytes.result.now, c.in-Ok.ensures, said g (goal.at.returns-in-Ok g c).After-send)

pub returns-in-Err : goal.returns-in-Err
returns-in-Err g c =
    let kept = g.W.Write.contents in
    item_cut g.S.Service.answers c.args.service.now c.match-item.service c.args.item (kept c.args.writer.now) (kept c.send.new.writer) c.as_bytes.result.now c.match-item.end.1 c.in-Err.fault
    (said g (goal.at.returns-in-Err g c).After-send) c.in-Err.ensures

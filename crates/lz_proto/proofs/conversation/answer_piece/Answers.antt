use Rattle.lz_proto.proofs.conversation.answer_piece.Goals as goal
use Rattle.std.proofs.Common.{sym, rules}
use Rattle.lz_proto.proofs.Serving.{next_done, next_ends, next_fails, piece_fails}

pub returns-in-Err : goal.returns-in-Err
returns-in-Err g c =
    let kept = g.W.Write.contents in
    let items = c.as_slice-item-items.result.now in
    piece_fails g.S.Service.answers c.args.service.now c.answer.new.service (kept c.args.writer.now) (kept c.answer.new.writer) c.args.lines.now c.feed.new.self c.args.piece.now items c.in-Err.fault
    (rw c.as_slice-item-items.ensures.value c.in-Ok.ensures.ok)
    (next_fails g.S.Service.answers c.args.service.now c.items.service c.answer.new.service (kept c.args.writer.now) (kept c.items.writer) (kept c.answer.new.writer)
    items c.items.item-index c.item-item.result c.in-Err.fault c.items-test.true (sym c.item-item.is) c.items.invariant c.in-Err.ensures)

pub returns-then-ne : goal.returns-then-ne
returns-then-ne g c =
    let kept = g.W.Write.contents in
    let items = c.as_slice-item-items.result.now in
    let (written, appends, answered) =
    next_ends g.S.Service.answers c.args.service.now c.items.service c.answer.new.service (kept c.args.writer.now) (kept c.items.writer) (kept c.answer.new.writer)
    items c.items.item-index c.item-item.result c.in-Ok-answer.end c.items-test.true (sym c.item-item.is) c.items.invariant c.in-Ok-answer.ensures (search rules) in
    (written, appends, (items, rw c.as_slice-item-items.ensures.value c.in-Ok.ensures.ok, answered))

pub items-preserved : goal.items-preserved
items-preserved g c =
    let kept = g.W.Write.contents in
    next_done g.S.Service.answers c.args.service.now c.items.service c.answer.new.service (kept c.args.writer.now) (kept c.items.writer) (kept c.answer.new.writer)
    c.as_slice-item-items.result.now c.items.item-index c.item-item.result c.in-Ok-answer.end c.items-test.true (sym c.item-item.is) c.items.invariant c.in-Ok-answer.ensures (search rules)

use Rattle.lz_proto.specs.declared.end.End.TheVariants as ends
use Rattle.lz_proto.proofs.conversation.session.Goals as goal
use Rattle.std.proofs.Common.{take, Some, None, Ok, arith, rules}
use Rattle.lz_proto.proofs.Begun.{begun_more, begun_ends, begun_fails, begun_end}

pub returns-in-Some : goal.returns-in-Some
returns-in-Some g c =
    let left = g.R.Read.remaining in
    let kept = g.W.Write.contents in
    begun_end g.S.Service.answers (left c.args.reader.now) (left c.pieces.reader) (left c.receive.new.reader) (kept c.args.writer.now) (kept c.pieces.writer) (kept c.answer.new.writer)
    c.pieces.lines c.args.service.now c.pieces.service c.answer.new.service (Some c.in-Some.bad) c.answer.result c.pieces.invariant.begun
    (rw c.if-count-eq0.true at c.in-Ok.ensures.ok) (c.in-Ok.ensures.end c.if-count-eq0.true c.pieces.invariant.room) c.in-Some.ensures c.answer.ensures

pub returns-in-None : goal.returns-in-None
returns-in-None g c =
    let left = g.R.Read.remaining in
    let kept = g.W.Write.contents in
    begun_end g.S.Service.answers (left c.args.reader.now) (left c.pieces.reader) (left c.receive.new.reader) (kept c.args.writer.now) (kept c.pieces.writer) (kept c.pieces.writer)
    c.pieces.lines c.args.service.now c.pieces.service c.pieces.service None (Ok ends.Done) c.pieces.invariant.begun
    (rw c.if-count-eq0.true at c.in-Ok.ensures.ok) (c.in-Ok.ensures.end c.if-count-eq0.true c.pieces.invariant.room) c.in-None.ensures (search rules)

pub returns-in-Err-answer_piece : goal.returns-in-Err-answer_piece
returns-in-Err-answer_piece g c =
    let left = g.R.Read.remaining in
    let kept = g.W.Write.contents in
    begun_fails g.S.Service.answers (left c.args.reader.now) (left c.pieces.reader) (left c.receive.new.reader) (kept c.args.writer.now) (kept c.pieces.writer) (kept c.answer_piece.new.writer)
    c.pieces.lines c.answer_piece.new.lines c.args.service.now c.pieces.service c.answer_piece.new.service (take c.in-Ok.count c.receive.new.buffer) c.in-Err-answer_piece.fault
    c.pieces.invariant.begun c.in-Ok.ensures.ok c.in-Err-answer_piece.ensures

pub returns-then-ne : goal.returns-then-ne
returns-then-ne g c =
    let left = g.R.Read.remaining in
    let kept = g.W.Write.contents in
    begun_ends g.S.Service.answers (left c.args.reader.now) (left c.pieces.reader) (left c.receive.new.reader) (kept c.args.writer.now) (kept c.pieces.writer) (kept c.answer_piece.new.writer)
    c.pieces.lines c.answer_piece.new.lines c.args.service.now c.pieces.service c.answer_piece.new.service (take c.in-Ok.count c.receive.new.buffer) c.in-Ok-answer_piece.end
    c.pieces.invariant.begun c.in-Ok.ensures.ok c.in-Ok-answer_piece.ensures (search rules)

pub pieces-preserved : goal.pieces-preserved
pieces-preserved g c =
    let left = g.R.Read.remaining in
    let kept = g.W.Write.contents in
    record {
      begun = begun_more g.S.Service.answers (left c.args.reader.now) (left c.pieces.reader) (left c.receive.new.reader) (kept c.args.writer.now) (kept c.pieces.writer) (kept c.answer_piece.new.writer)
          c.pieces.lines c.answer_piece.new.lines c.args.service.now c.pieces.service c.answer_piece.new.service (take c.in-Ok.count c.receive.new.buffer) c.in-Ok-answer_piece.end
          c.pieces.invariant.begun c.in-Ok.ensures.ok c.in-Ok-answer_piece.ensures (search rules);
      room = omega (arith, c.receive.auto.buffer);
    }

use Rattle.lazyset_file_commands.proofs.list.read_list.Goals as goal
use Rattle.std.proofs.Common.{◌≡◌, ℕ, Vec, Global, arith, inr, take, ◌∙◌}
use Rattle.lazyset_file_commands.{specs.Lists.{named_by}, proofs.ListPieces.{input_fails, input_lists, left_fails, left_first, left_more, left_none}}
use Rattle.lazyset_file_commands.proofs.ListPieces.{lines_fail, named_as, no_memory, same_members}

pub pieces-init : goal.pieces-init
pieces-init g c = record {
  kept = c.in-Ok.ensures.kept;
  like = c.in-Ok.ensures.like;
  room = omega arith;
  read = left_first c.in-Ok.list (g.R.Read.remaining c.args.reader.now) c.in-Ok.ensures.unread;
}

pub returns-in-Err-clause-err : goal.returns-in-Err-clause-err
returns-in-Err-clause-err g c = no_memory (named_by c.args.format c.args.lines) (g.R.Read.remaining c.args.reader.now) c.in-Err.fault c.in-Err.ensures.err

pub end-requires : goal.end-requires
end-requires g c = c.pieces.invariant.kept

pub returns-then-count-eq0-clause-ok : goal.returns-then-count-eq0-clause-ok
returns-then-count-eq0-clause-ok g c =
    let left = g.R.Read.remaining in
    let read = left_none c.pieces.list (left c.args.reader.now) (left c.pieces.reader) (left c.receive.new.reader) (rw c.if-count-eq0.true at c.in-Ok-receive.ensures.ok) (c.in-Ok-receive.ensures.end c.if-count-eq0.true c.pieces.invariant.room) c.pieces.invariant.read in
    input_lists (named_by c.args.format c.args.lines) c.pieces.list (named_as c.args.format c.args.lines c.pieces.list c.pieces.invariant.like) (λ (keys : Vec ℕ Global). keys.items) (left c.args.reader.now) c.end.result read c.end.ensures.ok

pub returns-then-count-eq0-clause-members : goal.returns-then-count-eq0-clause-members
returns-then-count-eq0-clause-members g c = same_members c.pieces.list.format c.args.format c.pieces.invariant.like.0 (λ (keys : Vec ℕ Global). keys.items) c.end.result c.end.ensures.members

pub returns-then-count-eq0-clause-err : goal.returns-then-count-eq0-clause-err
returns-then-count-eq0-clause-err g c =
    let left = g.R.Read.remaining in
    let read = left_none c.pieces.list (left c.args.reader.now) (left c.pieces.reader) (left c.receive.new.reader) (rw c.if-count-eq0.true at c.in-Ok-receive.ensures.ok) (c.in-Ok-receive.ensures.end c.if-count-eq0.true c.pieces.invariant.room) c.pieces.invariant.read in
    input_fails (named_by c.args.format c.args.lines) c.pieces.list (named_as c.args.format c.args.lines c.pieces.list c.pieces.invariant.like) (left c.args.reader.now) c.end.result read c.end.ensures.err

pub take-requires : goal.take-requires
take-requires g c = c.pieces.invariant.kept

pub returns-in-Err-take-clause-err : goal.returns-in-Err-take-clause-err
returns-in-Err-take-clause-err g c =
    let left = g.R.Read.remaining in
    left_fails (named_by c.args.format c.args.lines) c.pieces.list (take c.in-Ok-receive.count c.receive.new.buffer) c.in-Err-take.fault (left c.args.reader.now) (left c.pieces.reader) (left c.receive.new.reader)
    (named_as c.args.format c.args.lines c.pieces.list c.pieces.invariant.like) c.in-Ok-receive.ensures.ok c.in-Err-take.ensures.err c.pieces.invariant.read

pub returns-in_default-clause-err : goal.returns-in_default-clause-err
returns-in_default-clause-err g c =
    let left = g.R.Read.remaining in
    lines_fail (named_by c.args.format c.args.lines) c.pieces.list c.fault.result (left c.args.reader.now) (left c.pieces.reader) (named_as c.args.format c.args.lines c.pieces.list c.pieces.invariant.like)
    c.pieces.invariant.read c.fault.ensures

pub returns-in-Err-judge-clause-err : goal.returns-in-Err-judge-clause-err
returns-in-Err-judge-clause-err g c =
    let left = g.R.Read.remaining in
    let read = left_more c.pieces.list c.take.new.self (take c.in-Ok-receive.count c.receive.new.buffer) (left c.args.reader.now) (left c.pieces.reader) (left c.receive.new.reader)
    c.in-Ok-receive.ensures.ok c.in_default-take.ensures.goes c.pieces.invariant.read in
    let like : (c.take.new.self.format ≡ c.args.format) × (c.take.new.self.lines ≡ c.args.lines) =
    (c.in_default-take.ensures.goes.same.0 ∙ c.pieces.invariant.like.0, c.in_default-take.ensures.goes.same.1 ∙ c.pieces.invariant.like.1) in
    lines_fail (named_by c.args.format c.args.lines) c.take.new.self c.in-Err-judge.fault (left c.args.reader.now) (left c.receive.new.reader) (named_as c.args.format c.args.lines c.take.new.self like)
    read (inr c.in-Err-judge.ensures.err)

pub pieces-preserved : goal.pieces-preserved
pieces-preserved g c =
    let left = g.R.Read.remaining in
    record {
      kept = c.in_default-take.ensures.kept;
      like = (c.in_default-take.ensures.goes.same.0 ∙ c.pieces.invariant.like.0, c.in_default-take.ensures.goes.same.1 ∙ c.pieces.invariant.like.1);
      room = omega (arith, c.receive.auto.buffer, c.pieces.invariant.room);
      read = left_more c.pieces.list c.take.new.self (take c.in-Ok-receive.count c.receive.new.buffer) (left c.args.reader.now) (left c.pieces.reader) (left c.receive.new.reader)
          c.in-Ok-receive.ensures.ok c.in_default-take.ensures.goes c.pieces.invariant.read;
    }

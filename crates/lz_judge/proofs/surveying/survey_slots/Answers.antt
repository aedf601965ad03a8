use Rattle.lz_judge.proofs.surveying.survey_slots.Goals as goal
use Rattle.std.proofs.Common.{rules, ◌≡◌, ◌*◌, Bool, length, length-append, drop, arith, subst, length-drop, length-take}
use Rattle.lz_judge.specs.Scans.{EndsWithin, GivesPiece, HadMore, TakesPiece}
use Rattle.lz_judge.proofs.Surveys.PieceReads.{read_longer, read_more, read_none, read_short, read_whole}

pub loop-done-init : goal.loop-done-init
loop-done-init g c = record {
  range = search rules;
  room = search rules;
  read = λ input head begins size given. read_none c.args.header input (g.R.Read.remaining c.args.reader.now) head c.new-scan.result begins size given c.new-scan.ensures;
}

pub returns-then-not-branch : goal.returns-then-not-branch
returns-then-not-branch g c = λ input head begins size given.
    let left = g.R.Read.remaining in
    let part = length-take (16 * c.min-slots.result) c.loop-done.piece in
    let long : length c.take_piece.new.piece ≡ 16 * c.min-slots.result = omega (arith, part, c.loop-done.invariant.room, c.take_piece.auto.piece) in
    let ends : EndsWithin (length c.take_piece.new.piece) (left c.loop-done.reader) (left c.take_piece.new.reader) =
    subst (λ (b : Bool). TakesPiece b c.args.header.format c.loop-done.done c.take_piece.new.piece c.loop-done.scan c.take_piece.new.scan (left c.loop-done.reader) (left c.take_piece.new.reader))
    c.if-not-branch.true c.in_ok-take_piece.ensures in
    read_short c.args.header input (left c.loop-done.reader) (left c.take_piece.new.reader) c.loop-done.done c.loop-done.scan (c.loop-done.invariant.read input head begins size given)
    c.min-slots.result (length c.take_piece.new.piece) long (omega arith) ends

pub loop-done-preserved : goal.loop-done-preserved
loop-done-preserved g c =
    let part = length-take (16 * c.min-slots.result) c.loop-done.piece in
    let long : length c.take_piece.new.piece ≡ 16 * c.min-slots.result = omega (arith, part, c.loop-done.invariant.room, c.take_piece.auto.piece) in
    let left = g.R.Read.remaining in
    let gives : GivesPiece c.args.header.format c.loop-done.done c.take_piece.new.piece c.loop-done.scan c.take_piece.new.scan (left c.loop-done.reader) (left c.take_piece.new.reader) =
    subst (λ (b : Bool). TakesPiece b c.args.header.format c.loop-done.done c.take_piece.new.piece c.loop-done.scan c.take_piece.new.scan (left c.loop-done.reader) (left c.take_piece.new.reader))
    c.if-not-branch.false c.in_ok-take_piece.ensures in
    record {
      range = search rules;
      room = omega (arith, length-append c.take_piece.new.piece (drop (16 * c.min-slots.result) c.loop-done.piece), length-drop (16 * c.min-slots.result) c.loop-done.piece, long, c.loop-done.invariant.room);
      read = λ input head begins size given.
          read_more c.args.header input (left c.loop-done.reader) (left c.take_piece.new.reader) c.loop-done.done c.loop-done.scan (c.loop-done.invariant.read input head begins size given)
          c.min-slots.result c.take_piece.new.piece c.take_piece.new.scan long gives;
    }

pub returns-then-branch : goal.returns-then-branch
returns-then-branch g c = λ input head begins size given.
    let left = g.R.Read.remaining in
    let all : c.loop-done.done ≡ c.args.header.slots = omega (arith, c.loop-done.invariant.range) in
    let more = subst (λ (b : Bool). HadMore b (left c.loop-done.reader) (left c.has_more.new.reader)) c.if-branch.true c.in_ok-has_more.ensures in
    read_longer c.args.header input (left c.loop-done.reader) (left c.has_more.new.reader) c.loop-done.done c.loop-done.scan (c.loop-done.invariant.read input head begins size given) all more

pub returns-in-Ok : goal.returns-in-Ok
returns-in-Ok g c = λ input head begins size given.
    let left = g.R.Read.remaining in
    let all : c.loop-done.done ≡ c.args.header.slots = omega (arith, c.loop-done.invariant.range) in
    let end = subst (λ (b : Bool). HadMore b (left c.loop-done.reader) (left c.has_more.new.reader)) c.if-branch.false c.in_ok-has_more.ensures in
    read_whole c.args.header input (left c.loop-done.reader) (left c.has_more.new.reader) c.loop-done.done c.loop-done.scan (c.loop-done.invariant.read input head begins size given) all end
    c.in-Ok.findings c.in-Ok.ensures

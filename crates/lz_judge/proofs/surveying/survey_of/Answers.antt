use Rattle.lz_judge.proofs.surveying.survey_of.Goals as goal
use Rattle.std.{proofs.Common.{◌≡◌, ◌<◌, length, take, arith, subst, take_all, length-take-le}, specs.Io.KnownBytes.{Consumes}}
use Rattle.lz_judge.proofs.Surveys.PieceReads.{read_fault, read_part}

pub returns-then-branch-lt16 : goal.returns-then-branch-lt16
returns-then-branch-lt16 g c =
    let n = c.in_ok-fill.field-0 in
    let short : length (take n c.fill.new.buffer) < 16 = omega (arith, length-take-le n c.fill.new.buffer c.in_ok-fill.ensures.bound) in
    let size = c.fill.auto.buffer in
    read_part (g.R.Read.remaining c.args.reader.now) (g.R.Read.remaining c.fill.new.reader) (take n c.fill.new.buffer) short (c.in_ok-fill.ensures.end (omega (arith, size))) c.in_ok-fill.ensures.bytes

pub returns-in-Ok : goal.returns-in-Ok
returns-in-Ok g c =
    let n = c.in_ok-fill.field-0 in
    let head = c.fill.new.buffer in
    let size : length head ≡ 16 = c.fill.auto.buffer in
    let whole : take n head ≡ head = take_all n head (omega (arith, size)) in
    c.survey_slots.ensures (g.R.Read.remaining c.args.reader.now) head
    (record { long = omega (arith, size); bytes = c.in-Ok.ensures.bytes; format = c.in-Ok.ensures.format; slots = c.in-Ok.ensures.slots }) size
    (subst (Consumes (g.R.Read.remaining c.args.reader.now) (g.R.Read.remaining c.fill.new.reader)) whole c.in_ok-fill.ensures.bytes)

pub returns-in-Err : goal.returns-in-Err
returns-in-Err g c =
    let n = c.in_ok-fill.field-0 in
    let head = c.fill.new.buffer in
    let size : length head ≡ 16 = c.fill.auto.buffer in
    let whole : take n head ≡ head = take_all n head (omega (arith, size)) in
    read_fault (g.R.Read.remaining c.args.reader.now) (g.R.Read.remaining c.fill.new.reader) head c.in-Err.fault size c.in-Err.ensures.slots
    (subst (Consumes (g.R.Read.remaining c.args.reader.now) (g.R.Read.remaining c.fill.new.reader)) whole c.in_ok-fill.ensures.bytes)

use Rattle.lz_judge.proofs.history.History.read.Goals as goal
use Rattle.std.proofs.{Common.{◌≡◌, ℕ, ◌+◌, ◌-◌, length, take, drop, sym, subst, arith, rules}, lemmas.Bool.Decides.{nat_tests}}
use Rattle.lz_judge.specs.{Records.{Record}, Readers.{seen_by}, TextsRead.{HasRead, with_line}}
use Rattle.lz_judge.proofs.Texts.TextLine.{few_bytes, few_lines, line_read_on, line_refused, line_too_far, nothing_read, rest_unread}

pub loop-end-init : goal.loop-end-init
loop-end-init c = record {
  reader = c.new-reader.ensures.reader;
  so_far = subst (λ (h : Record). HasRead 1 c.args.text.now c.args.text.now h) (sym c.new-reader.ensures.nothing) (nothing_read c.args.text.now);
  within = omega arith;
  bytes = omega arith;
  line = omega arith;
}

pub returns-then-text-rest-ge-MOST_BYTES-clause-err : goal.returns-then-text-rest-ge-MOST_BYTES-clause-err
returns-then-text-rest-ge-MOST_BYTES-clause-err c =
    line_too_far c.loop-end.line c.args.text.now c.loop-end.rest.now (seen_by c.loop-end.reader) c.in-Some.end c.loop-end.invariant.so_far (c.in-Some.ensures) c.if-text-rest-ge-MOST_BYTES.true

pub returns-then-not-branch-clause-err : goal.returns-then-not-branch-clause-err
returns-then-not-branch-clause-err c =
    line_refused c.loop-end.line c.args.text.now c.loop-end.rest.now (seen_by c.loop-end.reader) c.in-Some.end c.loop-end.invariant.so_far (c.in-Some.ensures)
    (c.in_ok-take.ensures.refuses (search rules))

pub loop-end-preserved : goal.loop-end-preserved
loop-end-preserved c =
    let told = c.in_ok-take.ensures.reads (search rules) in
    let (l, says, comes, same) = told.1 in
    let few = few_lines c.loop-end.line c.args.text.now c.loop-end.rest.now (seen_by c.loop-end.reader) c.loop-end.invariant.so_far c.loop-end.invariant.bytes in
    let next : c.loop-end.line + 1 ≡ c.saturating_add-line.result = grind (arith, few, c.saturating_add-line.ensures) in
    let rest = take (length c.loop-end.rest.now - (c.in-Some.end + 1)) (drop (c.in-Some.end + 1) c.loop-end.rest.now) in
    let goes : HasRead (c.loop-end.line + 1) c.args.text.now rest (with_line l (seen_by c.loop-end.reader)) =
    line_read_on c.loop-end.line c.args.text.now c.loop-end.rest.now (seen_by c.loop-end.reader) c.in-Some.end l c.loop-end.invariant.so_far (c.in-Some.ensures) c.if-text-rest-ge-MOST_BYTES.false says comes in
    record {
      reader = told.0;
      so_far = subst (λ (n : ℕ). HasRead n c.args.text.now rest (seen_by c.take.new.self)) next (subst (λ (h : Record). HasRead (c.loop-end.line + 1) c.args.text.now rest h) (sym same) goes);
      within = search rules;
      bytes = few_bytes c.args.text.now c.loop-end.rest.now c.in-Some.end (c.in-Some.ensures) c.loop-end.invariant.within c.if-text-rest-ge-MOST_BYTES.false;
      line = omega (arith, next);
    }

pub returns-then-not-is_empty-clause-err : goal.returns-then-not-is_empty-clause-err
returns-then-not-is_empty-clause-err c =
    rest_unread c.loop-end.line c.args.text.now c.loop-end.rest.now (seen_by c.loop-end.reader) c.loop-end.invariant.so_far (c.in_default.ensures) (grind (arith, nat_tests))

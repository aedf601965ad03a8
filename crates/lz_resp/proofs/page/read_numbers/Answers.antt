use Rattle.lz_resp.proofs.page.read_numbers.Goals as goal
use Rattle.std.proofs.{Common.{◌∙◌, ◌-◌, ◌+◌, ℕ, List, sym, ap, arith}, lemmas.Result.{err_from_is_err_and}}
use Rattle.lz_resp.{specs.Pages.{numbers_at}, proofs.{Fronts.{with_front}, PageFronts.{numbers_fail, numbers_next, numbers_wait}}}

pub returns-in_err-number-clause-gives : goal.returns-in_err-number-clause-gives
returns-in_err-number-clause-gives c =
    let p = err_from_is_err_and c.from_residual.result c.from_residual.ensures.1 in
    rw (p.1, p.2)
    (sym c.bulks.invariant.read
    ∙ numbers_fail c.args.count c.bulks.counter c.bulks.numbers.items c.bulks.rest.now c.bulks-test.true c.in_err-number.field-0.0 (sym c.in_err-number.ensures.gives))

pub returns-in_default-clause-gives : goal.returns-in_default-clause-gives
returns-in_default-clause-gives c =
    sym c.bulks.invariant.read
    ∙ numbers_wait c.args.count c.bulks.counter c.bulks.numbers.items c.bulks.rest.now c.bulks-test.true (sym (rw c.in_default.is at c.in_ok-number.ensures.gives))

pub bulks-preserved : goal.bulks-preserved
bulks-preserved c =
    let so = rw c.in-Some.is at c.in_ok-number.ensures.gives in
    record {
      read = ap (λ (f : List ℕ). with_front f (numbers_at (c.args.count - (c.bulks.counter + 1)) c.in-Some.after.now)) (rw c.in_ok-push.was at c.push.ensures.items)
          ∙ sym (numbers_next c.args.count c.bulks.counter c.bulks.numbers.items c.bulks.rest.now c.bulks-test.true c.in-Some.number c.in-Some.after.now (sym so))
          ∙ c.bulks.invariant.read;
      inside = omega (arith, c.bulks.invariant.inside, rw c.in-Some.is at c.in_ok-number.ensures.inside);
    }

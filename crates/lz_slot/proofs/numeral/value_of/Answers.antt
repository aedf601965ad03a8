use Rattle.lz_slot.proofs.numeral.value_of.Goals as goal
use Rattle.std.{proofs.{Common.{◌+◌, ◌∙◌, ℕ, arith, ap}, lemmas.List.{take_all}}, specs.Str.Parse.{digits_value}}
use Rattle.lz_slot.{specs.Numerals.{largest_read, within}, proofs.Texts.Numerals.{digits_next, too_large, fits}}

pub returns-in_err-checked_mul : goal.returns-in_err-checked_mul
returns-in_err-checked_mul c =
    let more = digits_next c.args.digits.now c.loop-digit.digit-index c.requires c.loop-digit-test.true in
    c.from_residual.ensures ∙ too_large c.args.digits.now (c.loop-digit.digit-index + 1) (omega (arith, more, c.loop-digit.invariant.value, c.in_err-checked_mul.ensures))

pub returns-in_err-number : goal.returns-in_err-number
returns-in_err-number c =
    let more = digits_next c.args.digits.now c.loop-digit.digit-index c.requires c.loop-digit-test.true in
    c.from_residual-in_err-number.ensures ∙ too_large c.args.digits.now (c.loop-digit.digit-index + 1) (grind (arith, more, c.loop-digit.invariant.value, c.in_err-number.ensures, c.in_ok-checked_mul.ensures, c.from.ensures))

pub loop-digit-preserved : goal.loop-digit-preserved
loop-digit-preserved c =
    let more = digits_next c.args.digits.now c.loop-digit.digit-index c.requires c.loop-digit-test.true in
    record { value = grind (arith, more, c.loop-digit.invariant.value); range = grind (arith, c.in_ok-number.ensures) }

pub returns : goal.returns
returns c = fits c.loop-digit.number c.loop-digit.invariant.range ∙ ap (λ (n : ℕ). within 0 largest_read n) (c.loop-digit.invariant.value ∙ ap (digits_value 10) (take_all c.loop-digit.digit-index c.args.digits.now c.loop-digit-test.false))

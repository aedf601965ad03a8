use Rattle.lz_resp.proofs.digits.read_two.Goals as goal
use Rattle.std.proofs.Common.{◌∙◌, sym, arith}
use Rattle.lz_resp.proofs.ShortLines.{line_of_two}

pub returns-clause-number : goal.returns-clause-number
returns-clause-number c =
    line_of_two c.args.text.now c.in_ok-tens.tens c.in_ok-units.units (omega arith) (sym c.digit_of.ensures.digit ∙ c.in_ok-tens.was) (sym c.digit_of-2.ensures.digit ∙ c.in_ok-units.was)
    c.if-tens-eq0.false (omega arith) (omega arith)

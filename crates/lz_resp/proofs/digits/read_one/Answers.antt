use Rattle.lz_resp.proofs.digits.read_one.Goals as goal
use Rattle.std.proofs.Common.{◌∙◌, sym, arith}
use Rattle.lz_resp.proofs.ShortLines.{line_of_one}

pub returns-clause-number : goal.returns-clause-number
returns-clause-number c =
    line_of_one c.args.text.now c.in_ok-units.units (omega arith) (sym c.digit_of.ensures.digit ∙ c.in_ok-units.was) (omega arith) (omega arith)

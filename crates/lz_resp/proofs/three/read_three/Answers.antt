use Rattle.lz_resp.proofs.three.read_three.Goals as goal
use Rattle.std.proofs.Common.{◌∙◌, ℕ, take, ap, arith}
use Rattle.lz_proto.proofs.Texts.{take_least}
use Rattle.lz_resp.proofs.ShortLines.{three_found}

pub returns-clause-gives : goal.returns-clause-gives
returns-clause-gives c =
    three_found c.args.text.now (take c.min.result c.args.text.now) c.in_ok-first.after_first.now c.in_ok-second.after_second.now c.in_ok-first.first.now c.in_ok-second.second.now
    c.in_ok-third.third.now c.in_ok-third.rest.now (ap (λ (n : ℕ). take n c.args.text.now) c.min.ensures ∙ take_least 65536 c.args.text.now) (omega arith) (omega arith) (omega arith) (omega arith)
    (omega arith) c.in_ok-first.ensures.gives c.in_ok-second.ensures.gives c.in_ok-third.ensures.gives

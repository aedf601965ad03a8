use Rattle.lz_resp.proofs.three.read_argument.Goals as goal
use Rattle.std.proofs.Common.{arith}
use Rattle.lz_resp.proofs.ShortLines.{short_argument}

pub returns-clause-gives : goal.returns-clause-gives
returns-clause-gives c =
    short_argument c.args.text.now c.in_ok-count.count c.in_ok-count.front.now c.split_at.result.0.now c.split_at.result.1.now (omega arith) (omega arith) c.in_ok-count.ensures.number
    c.if-front-count.false c.split_at.ensures.front c.split_at.ensures.back (omega arith) (omega arith) (omega arith)

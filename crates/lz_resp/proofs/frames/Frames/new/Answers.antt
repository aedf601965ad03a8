use Rattle.lz_resp.proofs.frames.Frames.new.Goals as goal
use Rattle.std.proofs.Common.{length, ap, arith}
use Rattle.lz_resp.proofs.Texts.{step_empty}

pub invariant_of-result : goal.invariant_of-result
invariant_of-result c = let none = ap length c.new.ensures.items in (c.at_first.ensures.range, step_empty c.at_first.result c.new.result.items none, omega (arith, none))

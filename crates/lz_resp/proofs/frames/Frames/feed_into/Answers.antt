use Rattle.lz_resp.proofs.frames.Frames.feed_into.Goals as goal
use Rattle.std.proofs.Common.{length, ap, arith}
use Rattle.lz_resp.proofs.Texts.{step_empty}

pub invariant_of-self-in-Ok-None : goal.invariant_of-self-in-Ok-None
invariant_of-self-in-Ok-None c =
    let none = ap length c.clear.ensures.items in (c.self.invariant.0, step_empty c.self.inside.state c.clear.new.self.items none, omega (arith, none))

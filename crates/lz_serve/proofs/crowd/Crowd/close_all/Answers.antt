use Rattle.lz_serve.proofs.crowd.Crowd.close_all.Goals as goal
use Rattle.lz_serve.proofs.Crowds.{keeps_then, leave_keeps}

pub loop-token-preserved : goal.loop-token-preserved
loop-token-preserved g c = keeps_then c.args.self.now c.loop-token.self c.close.new.self c.loop-token.invariant (leave_keeps c.loop-token.self c.close.new.self c.close.ensures.leave)

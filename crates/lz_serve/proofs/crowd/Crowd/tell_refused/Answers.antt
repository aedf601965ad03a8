use Rattle.lz_serve.proofs.crowd.Crowd.tell_refused.Goals as goal
use Rattle.lz_serve.proofs.Crowds.{keeps_then}

pub loop-token-preserved : goal.loop-token-preserved
loop-token-preserved g c =
    keeps_then c.args.self.now c.read_last.new.self c.tend.new.self (keeps_then c.args.self.now c.loop-token.self c.read_last.new.self c.loop-token.invariant c.read_last.ensures) c.tend.ensures.kept

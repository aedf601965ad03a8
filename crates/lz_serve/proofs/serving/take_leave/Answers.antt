use Rattle.lz_serve.proofs.serving.take_leave.Goals as goal
use Rattle.lz_serve.proofs.Crowds.{keeps_then}

pub turns-preserved : goal.turns-preserved
turns-preserved g c =
    let was = c.args.crowd.now in
    let heard = keeps_then was c.turns.crowd c.listen.new.crowd c.turns.invariant c.listen.ensures in
    let queued = keeps_then was c.listen.new.crowd c.tend_queue.new.self heard c.tend_queue.ensures in
    keeps_then was c.tend_queue.new.self c.tend_back.new.self queued c.tend_back.ensures.kept

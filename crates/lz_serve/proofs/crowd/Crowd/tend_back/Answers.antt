use Rattle.lz_serve.proofs.crowd.Crowd.tend_back.Goals as goal
use Rattle.std.proofs.Common.{◌≡◌, ◌∙◌}
use Rattle.lz_serve.proofs.Crowds.{keeps_then}

pub loop-preserved : goal.loop-preserved
loop-preserved g c =
    let now = c.loop.self in
    let taken = c.take_back.new.self in
    record {
      kept = keeps_then c.args.self.now now c.tend.new.self c.loop.invariant.kept (keeps_then now taken c.tend.new.self c.take_back.ensures.kept c.tend.ensures.kept);
      begun = c.tend.ensures.begun ∙ c.take_back.ensures.begun ∙ c.loop.invariant.begun;
    }

use Rattle.lz_serve.proofs.crowd.Crowd.take_turn.Goals as goal
use Rattle.std.proofs.Common.{◌∙◌}
use Rattle.lz_serve.proofs.{Crowds.{keeps_then}, Turns.{one_passed}}

pub turns-preserved : goal.turns-preserved
turns-preserved g c = record {
  kept = keeps_then c.args.self.now c.turns.self c.turn.new.self c.turns.invariant.kept c.turn.ensures.kept;
  begun = c.in-Some.ensures.uncounted (cc) ∙ c.turns.invariant.begun;
  passed = one_passed c.args.self.now c.turns.self c.turn.new.self _ _ c.turns.invariant.passed c.in-Some.ensures.turned (cc);
}

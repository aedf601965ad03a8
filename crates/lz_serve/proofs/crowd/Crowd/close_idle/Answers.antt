use Rattle.lz_serve.proofs.crowd.Crowd.close_idle.Goals as goal
use Rattle.std.proofs.Common.{sym, subst}
use Rattle.lz_serve.{specs.Clients.{Keeps}, proofs.{Crowds.{keeps_same, keeps_then, leave_keeps}, crowd.Crowd.close_idle.Goals.{then-is_idle, else-is_idle}}}

pub loop-token-init : goal.loop-token-init
loop-token-init g c = keeps_same c.args.self.now _ c.self.view_is

pub loop-token-preserved : goal.loop-token-preserved
loop-token-preserved g c =
    elim c.if-is_idle.branch [
      | then-is_idle w ↦ subst (Keeps c.args.self.now) (sym w.self-is) (keeps_then c.args.self.now c.loop-token.self w.close.new.self c.loop-token.invariant (leave_keeps c.loop-token.self w.close.new.self w.close.ensures.leave))
      | else-is_idle w ↦ subst (Keeps c.args.self.now) (sym w.self-is) c.loop-token.invariant
    ]

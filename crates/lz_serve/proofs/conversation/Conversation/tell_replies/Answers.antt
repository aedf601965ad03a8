use Rattle.lz_serve.proofs.conversation.Conversation.tell_replies.Goals as goal
use Rattle.lz_serve.specs.{declared.{turn.Turn.TheVariants.{Asks}, line.Line.{Line}}, Conversations.{IsReady, Talk}, Lines.{AreReady}}
use Rattle.lz_serve.proofs.ReadyLines.{not_ready, ready_dropped}
use Rattle.std.proofs.Common.{◌-◌, List, length, sym, ap, ◌∙◌, subst, arith, length-drop}

pub returns-then-self-count-clause-rests : goal.returns-then-self-count-clause-rests
returns-then-self-count-clause-rests c = λ _.
    let s = c.self.inside in
    subst (λ (t : Talk). IsReady (Asks c.args.wording c.args.count) t.under → ⊥) c.self.view_is (not_ready c.args.count s.ready s.under.items c.args.wording c.self.invariant.1 c.if-self-count.true)

pub invariant_of-self-2 : goal.invariant_of-self-2
invariant_of-self-2 c =
    let s = c.self.inside in
    let counted = c.self.invariant.0 in
    let ready = c.self.invariant.1 in
    let within = ready.within in
    let left = ap (λ (l : List Line). length l) c.pass_over.ensures ∙ length-drop c.args.count s.under.items in (
      omega (arith, counted, within, c.if-self-count.false, left),
      subst (AreReady (s.ready - c.args.count)) (sym c.pass_over.ensures) (ready_dropped c.args.count s.ready s.under.items (omega (arith, c.if-self-count.false)) ready),
    )

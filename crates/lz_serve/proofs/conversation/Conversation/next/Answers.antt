use Rattle.lz_serve.proofs.conversation.Conversation.next.Goals as goal
use Rattle.std.proofs.Common.{◌≡◌, ◌∷◌, [], ◌++◌, List, length, rules, sym, ap, ◌∙◌, subst, arith, length-append}
use Rattle.lz_serve.{specs.{declared.line.Line.{Line}, Lines.{AreReady}}, proofs.ReadyLines.{ready_more}}

pub invariant_of-self-2 : goal.invariant_of-self-2
invariant_of-self-2 c =
    let s = c.self.inside in
    let counted = c.self.invariant.0 in
    let same : c.push_back_reserved.new.self.items ≡ s.under.items ++ c.new.result ∷ [] = search (rules, c.push_back_reserved.ensures.items, c.in_ok-reserve.ensures.items) in
    let long = ap (λ (l : List Line). length l) same ∙ length-append s.under.items (c.new.result ∷ []) in (
      omega (arith, counted, long),
      subst (AreReady s.ready) (sym same) (ready_more s.ready s.under.items c.new.result (ap (λ (line : Line). line.reply) c.new.ensures) c.self.invariant.1),
    )

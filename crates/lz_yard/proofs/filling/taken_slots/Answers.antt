use Rattle.lz_yard.proofs.filling.taken_slots.Goals as goal
use Rattle.std.{proofs.Common.{◌≡◌, [], ◌∷◌, ◌++◌, sym, ap, ◌∙◌}, specs.Prelude.{is_some}}
use Rattle.lz_vault.specs.Members.{member_at}
use Rattle.lz_yard.proofs.{Opening.TakenSlots.{taken_more, taken_same}, filling.taken_slots.Goals.{then-holds_member+in_ok-push, else-holds_member}}

pub loop-index-preserved : goal.loop-index-preserved
loop-index-preserved g c =
    let cells = c.args.vault.now.memory.cells in
    let n = c.loop-index.index in
    let here : c.holds_member.result ≡ is_some (member_at cells n) = c.holds_member.ensures ∙ ap (λ s. is_some (member_at cells s)) c.new-slot.ensures in
    elim c.if-holds_member.branch [
      | then-holds_member+in_ok-push w ↦
          ap (λ v. v.items) w.taken-is ∙ w.in_ok-push.ensures.items ∙ (λ i. c.loop-index.invariant i ++ c.new-slot.ensures i ∷ []) ∙ taken_more cells n (sym w.if-holds_member.true ∙ here)
      | else-holds_member w ↦ ap (λ v. v.items) w.taken-is ∙ c.loop-index.invariant ∙ taken_same cells n (sym w.if-holds_member.false ∙ here)
    ]

-- What a pass has seen after a call goes on from what it had seen, with the own changes of its command.
use Rattle.std.proofs.Common.{ℕ, inr, List, [], ◌∷◌, refl}
use Rattle.lz_refinement.proofs.{Vocabulary.{Command, Format, Trace, Reply, Shape, Note, Part, Changes, Extends}, Calls.OwnChanges.{none_cut}}
use Rattle.lz_refinement.specs.Answers.{Answers, MayHaveChanged, Promises}
use Rattle.lz_slot.specs.declared.command.Command.TheVariants.{Add, Remove, Has}
use Rattle.lz_list.specs.declared.publishing.Publishing.TheVariants.{Linked as linked, Marked as marked, Unlinked as unlinked}
use Rattle.lz_machine.specs.declared.event.Reply.TheVariants.{Yes, Full, Halted, Device}

-- the own changes of a call, those of a yes or some first ones of them
pub record OwnOf (p : ℕ) (c : Command) (P Q : Trace) : Type 0 where
  pub own : Trace
  pub changes : Changes p P Q own
  pub may : MayHaveChanged p c own

none : (p : ℕ) (c : Command) {P Q : Trace} → Changes p P Q [] → OwnOf p c P Q
none p c made = record { own = []; changes = made; may = none_cut p c [] refl }

promised : (shape : Shape) (p : ℕ) (F : Format) (c : Command) (r : Reply) (pin : ℕ) (new : List Note) (P Q : Trace) → Promises shape p F c r pin new P Q → OwnOf p c P Q
promised shape p F (Has k) Yes pin new P Q h = none p (Has k) h.1
promised shape p F (Add k) Yes pin new P Q h = record { own = linked k h.slot p ∷ []; changes = h.changes; may = inr (h.slot, refl) }
promised shape p F (Remove k) Yes pin new P Q h = record { own = unlinked k h.slot p ∷ marked k h.slot p ∷ []; changes = h.changes; may = inr (h.slot, inr refl) }
promised shape p F (Add k) (Full counts) pin new P Q h = none p (Add k) h.changes
promised shape p F (Remove k) (Full counts) pin new P Q h = absurd h
promised shape p F (Has k) (Full counts) pin new P Q h = absurd h
promised shape p F c Halted pin new P Q h = record { own = h.own; changes = h.changes; may = h.may }
promised shape p F c Device pin new P Q h = record { own = h.own; changes = h.changes; may = h.may }
promised shape p F c _ pin new P Q h = none p c h.1

pub own_of_call : (F : Format) (c : Command) (reply : Reply) (before after : Part) → Answers F c reply before after → OwnOf before.number c before.known after.known
own_of_call F c reply before after answers = promised _ _ F c reply _ _ before.known after.known answers.promises

pub seen_more : (F : Format) (c : Command) (reply : Reply) (before after : Part) → Answers F c reply before after → Extends after.known before.known
seen_more F c reply before after answers = let h = own_of_call F c reply before after answers in (h.changes.since, h.changes.goes_on)

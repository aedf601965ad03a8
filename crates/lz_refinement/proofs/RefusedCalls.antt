-- Worked rows of calls that must not count as answered, for each part of what a call's answer says of its pass.
use Rattle.std.proofs.Common.{◌≡◌, List, [], ◌∷◌, ◌++◌, drop, Option, Some, None, refl, sym, ap, ◌∙◌, subst, arith}
use Rattle.std.proofs.lemmas.List.{append-nil, append_cancel_right}
use mathlib.Core.Bool.{false≢true}
use Rattle.lz_slot.specs.declared.{command.Command.TheVariants.{Add, Has}, format.Format.TheVariants.{Two}}
use Rattle.lz_list.specs.declared.{word.Word.TheVariants.{Head, Halt}, publishing.Publishing.TheVariants.{Linked as linked, Unlinked as unlinked}}
use Rattle.lz_list.specs.declared.publishing.Publishing.TheVariants.{KeyPrepared as key_prepared, LinkPrepared as link_prepared}
use Rattle.lz_refinement.proofs.{Vocabulary.{Command, Progress, Trace, Shape, Note, note_by, load_note, place, member}, SessionRows.{before, after}}
use Rattle.lz_refinement.specs.{Answers.{Answers, AreWithin, IsOneCall}, Marks.{reply_in}, OnePass.{AreOwn}}
use Rattle.lz_machine.specs.declared.event.{Event.TheVariants.{Pin, Answer}, Outcome.TheVariants.{Done}, Reply.TheVariants.{Yes, No}}
use Rattle.lz_board.specs.declared.view.What.TheVariants.{Called, Played}

abbrev shape : Shape
shape = record { slots = 2; buckets = 1; passes = 1 }

-- the steps of a `has` that finds nothing: the call, what it does, and its Answer
abbrev calls : List Note
calls = note_by 1 (Called (Has 9) Two) None ∷ []

abbrev within : List Note
within =
    load_note 1 (record { word = Head 0; value = 0; at = 4 }) ∷ load_note 1 (record { word = Halt; value = 0; at = 4 })
    ∷ note_by 1 (Played Pin Done) None ∷ []

abbrev found_nothing : List Note
found_nothing = note_by 1 (Played Answer Done) None ∷ (within ++ calls)

-- the command of a call's place
abbrev command_in : Option (Command × Progress) → Option Command
command_in None = None
command_in (Some call) = Some call.0

-- its reply is No, to the command with which it began
not_another_reply : IsOneCall shape 1 Two (Has 9) Yes found_nothing → ⊥
not_another_reply h = let is : Some No ≡ Some Yes = ap (λ (l : List Note). reply_in (place shape (drop 1 l))) h.steps ∙ ap reply_in h.answers in absurd cc

not_another_command : IsOneCall shape 1 Two (Add 9) No found_nothing → ⊥
not_another_command h =
    let is : Some (Has 9) ≡ Some (Add 9) = ap (λ (l : List Note). command_in (place shape (drop 1 l))) h.steps ∙ ap command_in h.answers in absurd cc

-- two calls aren't one
not_two_calls : IsOneCall shape 1 Two (Has 9) No (found_nothing ++ found_nothing) → ⊥
not_two_calls h =
    let is = append_cancel_right (within ++ calls ++ note_by 1 (Played Answer Done) None ∷ within) h.within calls (ap (λ (l : List Note). drop 1 l) h.steps) in
    (subst AreWithin (sym is) h.only).1.1.1.0

-- A pass's call is answered for this pass, for its own steps, and for the command that it asked for.
not_of_another_pass : Answers Two (Has 9) Yes before (record after { number = 2 }) → ⊥
not_of_another_pass h = let same = h.number in absurd (omega (arith, same))

not_without_its_steps : Answers Two (Has 9) Yes before (record after { steps = [] }) → ⊥
not_without_its_steps h = let none = h.steps ∙ append-nil h.new ∙ h.one_call.steps in absurd cc

not_for_another_command : Answers Two (Add 9) No before after → ⊥
not_for_another_command h =
    let is : Some (Has 9) ≡ Some (Add 9) = ap (λ (l : List Note). command_in (place shape (drop 1 l))) (h.steps ∙ append-nil h.new ∙ h.one_call.steps) ∙ ap command_in h.one_call.answers in absurd cc

-- It keeps what its reply promises, and what the pass has seen was lawful.
not_of_no_member : Answers Two (Has 9) Yes (record before { known = [] }) (record after { known = [] }) → ⊥
not_of_no_member h = false≢true (sym (ap (member 9) h.promises.0.between.upto) ∙ h.promises.0.settled.member)

abbrev unlawful : Trace
unlawful = unlinked 12 1 2 ∷ before.known

not_after_unlawful : Answers Two (Has 9) Yes (record before { known = unlawful }) (record after { known = unlawful }) → ⊥
not_after_unlawful h = false≢true h.lawful.0.removed

-- and in a set of one pass no other one has changed anything
abbrev by_another : Trace
by_another = linked 12 1 2 ∷ link_prepared 1 0 ∷ key_prepared 1 12 ∷ []

not_beside_another : Answers Two (Has 9) Yes before (record after { known = by_another ++ before.known }) → ⊥
not_beside_another h =
    let own = h.alone refl in
    let is : AreOwn 1 by_another = subst (AreOwn 1) (sym (append_cancel_right by_another own.since before.known own.goes_on)) own.own in absurd (omega (arith, is.0))

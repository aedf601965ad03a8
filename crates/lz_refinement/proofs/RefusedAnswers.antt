-- Worked rows of answers that must not hold, for each part of what an answer promises.
use Rattle.std.proofs.Common.{◌≡◌, ⊎_elim, ℕ, false, None, List, [], ◌∷◌, ◌++◌, length, refl, sym, ap, ◌∙◌, arith}
use Rattle.std.proofs.lemmas.{List.{append-nil, append_cancel_right}, Bool.Decides.{nat_tests}}
use mathlib.Core.Bool.{false≢true}
use Rattle.lz_refinement.proofs.Vocabulary.{Command, Counts, Changes, Trace, halt_word, last_pin, member, members, Shape, Note, Part, note_by, own}
use Rattle.lz_refinement.{proofs.Replies.KeyChanges.{no_sooner}, specs.Answers.{Added, Answers, IsOneCall, Promises, Removed, WasCut, WasFull}}
use Rattle.lz_slot.specs.declared.{command.Command.TheVariants.{Add, Remove, Has}, format.Format.TheVariants.{One, Two}}
use Rattle.lz_list.specs.declared.publishing.{Change.TheVariants.{Added as as_added, Removed as as_removed}, Publishing.TheVariants.{Linked as linked}}
use Rattle.lz_list.specs.declared.publishing.Publishing.TheVariants.{Marked as marked, Unlinked as unlinked, Settled as settled, Halted as halted}
use Rattle.lz_machine.specs.declared.event.Reply.TheVariants.{Yes, No, Full, Worn, OldFile}
use Rattle.lz_board.specs.declared.view.What.TheVariants.{Called}

abbrev shape : Shape
shape = record { slots = 2; buckets = 1; passes = 2 }

-- pass 1 linked 12 in slot 1; then that was settled
abbrev E1 : Trace
E1 = linked 12 1 1 ∷ []

abbrev E2 : Trace
E2 = settled 1 as_added ∷ E1

-- what was published for pass p since nothing was
own_since : (p : ℕ) (Q since : Trace) → Q ≡ since ++ [] → own p Q ≡ own p since
own_since p Q since goes_on = ap (own p) (goes_on ∙ append-nil since)

-- and what was published for it since P
changed : (p : ℕ) (P new own_ones : Trace) → Changes p P (new ++ P) own_ones → own p new ≡ own_ones
changed p P new own_ones h = ap (own p) (append_cancel_right new h.since P h.goes_on) ∙ h.own

-- an adding is of the key that was asked for, by this pass, since its call began
not_another_key : Added 1 9 [] E2 → ⊥
not_another_key h = grind (arith, own_since)

not_another_pass : Added 2 12 [] E2 → ⊥
not_another_pass h = let is : [] ≡ linked 12 h.slot 2 ∷ [] = own_since 2 E2 h.changes.since h.changes.goes_on ∙ h.changes.own in absurd cc

not_before_its_call : Added 1 12 E1 E2 → ⊥
not_before_its_call h = grind (arith, append_cancel_right)

-- the pass changes nothing else
not_with_another_change : Added 1 12 [] (linked 9 0 1 ∷ E2) → ⊥
not_with_another_change h = let is : linked 9 0 1 ∷ linked 12 1 1 ∷ [] ≡ linked 12 h.slot 1 ∷ [] = changed 1 [] (linked 9 0 1 ∷ E2) _ h.changes in absurd cc

-- and it is this linking that was settled, and not another one
abbrev other_settled : Trace
other_settled = linked 12 1 1 ∷ settled 0 as_added ∷ linked 9 0 2 ∷ []

not_by_another_flag : Added 1 12 [] other_settled → ⊥
not_by_another_flag h = grind arith

-- a removal is done once its node is unlinked, and is of the key that was asked for, by this pass
not_marked_only : Removed 1 12 E2 (marked 12 1 1 ∷ E2) → ⊥
not_marked_only h = grind (arith, append_cancel_right)

not_settled_only : Removed 1 12 E2 (settled 1 as_removed ∷ marked 12 1 1 ∷ E2) → ⊥
not_settled_only h =
    let is : marked 12 1 1 ∷ [] ≡ unlinked 12 h.slot 1 ∷ marked 12 h.slot 1 ∷ [] = changed 1 E2 (settled 1 as_removed ∷ marked 12 1 1 ∷ []) _ h.changes in absurd cc

abbrev gone : Trace
gone = unlinked 12 1 1 ∷ settled 1 as_removed ∷ marked 12 1 1 ∷ E2

not_gone_for_another_key : Removed 1 9 E2 gone → ⊥
not_gone_for_another_key h = grind (arith, append_cancel_right)

not_gone_by_another_pass : Removed 2 12 E2 gone → ⊥
not_gone_by_another_pass h = grind (arith, append_cancel_right)

-- the pass changes nothing else, and it is this linking that was settled as removed
not_gone_with_another_change : Removed 1 12 E2 (linked 9 0 1 ∷ gone) → ⊥
not_gone_with_another_change h =
    let is : linked 9 0 1 ∷ unlinked 12 1 1 ∷ marked 12 1 1 ∷ [] ≡ unlinked 12 h.slot 1 ∷ marked 12 h.slot 1 ∷ [] = changed 1 E2 (linked 9 0 1 ∷ unlinked 12 1 1 ∷ settled 1 as_removed ∷ marked 12 1 1 ∷ []) _ h.changes in absurd cc

abbrev other_removed : Trace
other_removed = unlinked 12 1 1 ∷ settled 0 as_removed ∷ linked 9 0 2 ∷ marked 12 1 1 ∷ E2

not_gone_by_another_flag : Removed 1 12 E2 other_removed → ⊥
not_gone_by_another_flag h = grind (arith, no_sooner)

-- what an earlier call of the pass did to this key in this slot doesn't count
not_by_an_earlier_adding : Added 1 12 gone (linked 12 1 1 ∷ gone) → ⊥
not_by_an_earlier_adding h = grind (arith, no_sooner)

abbrev back : Trace
back = settled 1 as_added ∷ linked 12 1 1 ∷ gone

abbrev unlinked_again : Trace
unlinked_again = unlinked 12 1 1 ∷ marked 12 1 1 ∷ back

not_by_an_earlier_removal : Removed 1 12 back unlinked_again → ⊥
not_by_an_earlier_removal h = grind (arith, no_sooner)

-- full is told where a slot was asked for, none was free, the key was no member, and nothing was changed
abbrev two_taken : Counts
two_taken = record { free = 0; taken = 2; limbo = 0 }

not_full_unasked : (P Q : Trace) → WasFull shape 1 12 two_taken [] P Q → ⊥
not_full_unasked P Q h = let is = h.reserve in absurd cc

not_full_with_a_free_slot : (new : List Note) (P Q : Trace) → WasFull shape 1 12 (record { free = 1; taken = 1; limbo = 0 }) new P Q → ⊥
not_full_with_a_free_slot new P Q h = let is = h.free in absurd (omega (arith, is))

not_full_of_a_member : (new : List Note) → WasFull shape 1 12 two_taken new E1 E1 → ⊥
not_full_of_a_member new h = grind arith

not_full_after_a_linking : (new : List Note) → WasFull shape 1 12 two_taken new [] E1 → ⊥
not_full_after_a_linking new h = let is = own_since 1 E1 h.changes.since h.changes.goes_on ∙ h.changes.own in absurd cc

-- a call is cut off only once the halt is seen, and may have changed what its command changes
not_cut_before_the_halt : WasCut 1 (Add 12) [] E1 → ⊥
not_cut_before_the_halt h = let says = h.halted in absurd (omega (arith, says))

cut_has_links : WasCut 1 (Has 12) [] (halted ∷ E1) → ⊥
cut_has_links h =
    let is : linked 12 1 1 ∷ [] ≡ [] = own_since 1 (halted ∷ E1) h.changes.since h.changes.goes_on ∙ h.changes.own ∙ h.may in absurd cc

cut_add_links_another_key : WasCut 1 (Add 9) [] (halted ∷ E1) → ⊥
cut_add_links_another_key h =
    ⊎_elim
    (λ none. let is : linked 12 1 1 ∷ [] ≡ [] = own_since 1 (halted ∷ E1) h.changes.since h.changes.goes_on ∙ h.changes.own ∙ none in absurd cc)
    (λ one. let is : linked 12 1 1 ∷ [] ≡ linked 9 one.0 1 ∷ [] = own_since 1 (halted ∷ E1) h.changes.since h.changes.goes_on ∙ h.changes.own ∙ one.1 in
    let key : ◌≡◌ {A = ℕ} 12 9 = cc in absurd (omega (arith, key)))
    h.may

cut_remove_marks_another_key : WasCut 1 (Remove 12) [] (halted ∷ marked 9 1 1 ∷ []) → ⊥
cut_remove_marks_another_key h = let all : marked 9 1 1 ∷ [] ≡ h.own = changed 1 [] (halted ∷ marked 9 1 1 ∷ []) h.own h.changes in grind (arith, all)

-- the table: yes of a key that was never a member, old file of a key that the format can hold
not_yes_of_none : (new : List Note) → Promises shape 1 Two (Has 12) Yes 2 new [] [] → ⊥
not_yes_of_none new h = false≢true (sym (ap (member 12) h.0.between.upto) ∙ h.0.settled.member)

not_there_already : (new : List Note) → Promises shape 1 Two (Add 12) No 2 new [] [] → ⊥
not_there_already new h = not_yes_of_none new h

not_too_old : (new : List Note) (P Q : Trace) → Promises shape 1 Two (Add 12) OldFile 2 new P Q → ⊥
not_too_old new P Q h = false≢true h.0

-- What a reply rests on is durable. Pass 2 has linked 12; that was settled; and then 12 was marked, which isn't settled.
abbrev linked_only : Trace
linked_only = linked 12 1 2 ∷ []

abbrev settled_member : Trace
settled_member = settled 1 as_added ∷ linked_only

abbrev marked_only : Trace
marked_only = marked 12 1 2 ∷ settled_member

-- no yes and no "there already" of a member whose linking isn't settled, whenever the call began
not_yes_unsettled : (new : List Note) (P : Trace) → Promises shape 1 Two (Has 12) Yes 2 new P linked_only → ⊥
not_yes_unsettled new P h = grind arith

not_there_unsettled : (new : List Note) (P : Trace) → Promises shape 1 Two (Add 12) No 2 new P linked_only → ⊥
not_there_unsettled new P h = not_yes_unsettled new P h

-- no No of a key that was a member when the call began, while its removal isn't settled
not_no_unsettled : (new : List Note) → Promises shape 1 Two (Has 12) No 2 new settled_member marked_only → ⊥
not_no_unsettled new h = grind arith

not_gone_unsettled : (new : List Note) → Promises shape 1 Two (Remove 12) No 2 new settled_member marked_only → ⊥
not_gone_unsettled new h = not_no_unsettled new h

-- no No of a member, whatever its flags are
not_no_of_member : (new : List Note) → Promises shape 1 Two (Has 12) No 2 new (settled 1 as_removed ∷ linked_only) (settled 1 as_removed ∷ linked_only) → ⊥
not_no_of_member new h = grind arith

-- nor where it is another slot's flag that is set
not_yes_by_another_flag : (new : List Note) → Promises shape 1 Two (Has 12) Yes 2 new [] other_settled → ⊥
not_yes_by_another_flag new h = grind arith

abbrev two_members : Trace
two_members = settled 1 as_added ∷ linked 12 1 2 ∷ linked 9 0 2 ∷ []

not_no_by_another_flag : (new : List Note) → Promises shape 1 Two (Has 12) No 2 new two_members (settled 0 as_removed ∷ marked 12 1 2 ∷ two_members) → ⊥
not_no_by_another_flag new h = grind arith

-- nor of what was so only before the call began
not_yes_of_before : (new : List Note) → Promises shape 1 Two (Has 12) Yes 2 new marked_only marked_only → ⊥
not_yes_of_before new h = grind arith

not_no_of_before : (new : List Note) → Promises shape 1 Two (Has 12) No 2 new settled_member settled_member → ⊥
not_no_of_before new h = grind arith

-- These change nothing: a has, an adding and a removing that answer No, and what is told worn or of an old file. Pass 1 has linked 12.
linked_something : Changes 1 [] E2 [] → ⊥
linked_something h = let is : linked 12 1 1 ∷ [] ≡ [] = changed 1 [] E2 [] h in absurd cc

has_links : (new : List Note) → Promises shape 1 Two (Has 12) Yes 2 new [] E2 → ⊥
has_links new h = linked_something h.1

has_links_another : (new : List Note) → Promises shape 1 Two (Has 9) No 2 new [] E2 → ⊥
has_links_another new h = linked_something h.1

there_already_links : (new : List Note) → Promises shape 1 Two (Add 12) No 2 new [] E2 → ⊥
there_already_links new h = linked_something h.1

gone_links : (new : List Note) → Promises shape 1 Two (Remove 9) No 2 new [] E2 → ⊥
gone_links new h = linked_something h.1

worn_links : (new : List Note) → Promises shape 1 Two (Add 12) Worn last_pin new [] E2 → ⊥
worn_links new h = linked_something h.1

too_old_links : (new : List Note) → Promises shape 1 One (Add 3000000000000000017) OldFile 2 new [] E2 → ⊥
too_old_links new h = linked_something h.1

-- only an adding is told full, and in a set of one pass only where each slot has a member
not_full_of_has : (counts : Counts) (new : List Note) (P Q : Trace) → Promises shape 1 Two (Has 12) (Full counts) 2 new P Q → ⊥
not_full_of_has counts new P Q h = h

not_full_of_remove : (counts : Counts) (new : List Note) (P Q : Trace) → Promises shape 1 Two (Remove 12) (Full counts) 2 new P Q → ⊥
not_full_of_remove counts new P Q h = h

not_full_of_empty : (new : List Note) → WasFull (record { slots = 2; buckets = 1; passes = 1 }) 1 12 two_taken new [] [] → ⊥
not_full_of_empty new h = let all = h.alone refl in none all.keys all.count all.all
  where
    none : (keys : List ℕ) → length keys ≡ 2 → ((k : ℕ) → false ≡ members keys k) → ⊥
    none [] two all = absurd cc
    none (k ∷ keys) two all = grind (arith, nat_tests, all k)

-- a call's steps end with its answer
not_answered_yet : IsOneCall shape 1 Two (Has 9) Yes (note_by 1 (Called (Has 9) Two) None ∷ []) → ⊥
not_answered_yet h = let is = h.steps in absurd cc

-- a call that begins after its pass has seen the halt isn't answered
not_answered_late : (c : Command) (before after : Part) → halt_word before.known ≡ 1 → Answers Two c Yes before after → ⊥
not_answered_late c before after halts h = h.late halts

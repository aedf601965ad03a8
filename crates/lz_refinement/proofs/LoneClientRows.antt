-- Worked rows of all calls of a set, computed on small cases.
use Rattle.std.proofs.{Common.{◌≡◌, inl, ℕ, ◌==◌, if◌then◌else◌, true, false, [], ◌∷◌, ◌++◌, refl, sym, subst}, lemmas.List.{append_cancel_right}}
use Rattle.lz_slot.specs.declared.{command.Command.TheVariants.{Has}, format.Format.TheVariants.{Two}}
use Rattle.lz_list.specs.declared.publishing.Publishing.TheVariants.{Linked as linked, Marked as marked}
use Rattle.lz_refinement.proofs.{Vocabulary.{Trace, opening, Since, own, knowing}, Replies.KeyChanges.{no_sooner}, SessionRows.{before, after, answers}}
use Rattle.lz_refinement.specs.LoneClient.{MadeCall, PublishedIn, InTurn, AreAll}
use Rattle.lz_machine.specs.declared.event.Reply.TheVariants.{Yes}

-- key 9 was found in slot 0, and pass 1 looked for it
abbrev P0 : Trace
P0 = opening 1 ((9, 0) ∷ [])

abbrev call : MadeCall
call = record { command = Has 9; reply = Yes; before = before; after = after }

nothing : (p : ℕ) → Since p P0 P0
nothing p = ([], refl, refl)

-- that call is all
one_call : AreAll Two (call ∷ []) P0 P0
one_call = record {
  made = (answers, tt);
  all = λ p. elim (1 == p) as (λ b. PublishedIn p (if b then call ∷ [] else []) P0 P0) [ true ↦ (nothing p, nothing p) | false ↦ nothing p ];
}

-- it isn't where another pass has removed 9 since
abbrev since : Trace
since = marked 9 0 2 ∷ []

not_all : AreAll Two (call ∷ []) P0 (since ++ P0) → ⊥
not_all h = let two = h.all 2 in let more = append_cancel_right since two.0 P0 two.1 in let none : own 2 since ≡ [] = subst (λ (l : Trace). own 2 l ≡ []) (sym more) two.2 in absurd cc

-- a call that hasn't seen what the one before it had seen at its answer wasn't made after it
abbrev late : MadeCall
late = record { command = Has 9; reply = Yes; before = before; after = knowing (linked 12 1 2 ∷ P0) after }

in_turn : InTurn (call ∷ late ∷ []) P0 (linked 12 1 2 ∷ P0)
in_turn = (inl refl, (inl refl, inl refl))

not_in_turn : InTurn (late ∷ call ∷ []) P0 (linked 12 1 2 ∷ P0) → ⊥
not_in_turn h = no_sooner (linked 12 1 2) P0 P0 h.1.0 (inl refl)

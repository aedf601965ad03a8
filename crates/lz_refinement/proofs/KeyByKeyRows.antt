-- Worked rows of keys that nobody else changes, computed on small cases.
use Rattle.std.proofs.{Common.{◌≡◌, true, false, inl, inr, [], ◌∷◌, ◌++◌, refl, sym, ◌∙◌, subst, arith}, lemmas.Bool.Decides.{nat_tests}}
use Rattle.std.proofs.lemmas.List.{append_cancel_right}
use mathlib.Core.Bool.{false≢true, true≢false}
use Rattle.lz_slot.specs.declared.{command.Command.TheVariants.{Add, Remove, Has}, format.Format.TheVariants.{One, Two}}
use Rattle.lz_refinement.proofs.{Vocabulary.{Keys, members, Counts, Trace, opening}, SessionRows.{before, after, answers}}
use Rattle.lz_refinement.specs.KeyByKey.{AreFor, OnlyOwnOf, Untouched, KeyRow, IsKeyAnswer, ServedKey, about, PlainCalls, answered_in}
use Rattle.lz_list.specs.declared.publishing.Publishing.TheVariants.{Linked as linked, Marked as marked}
use Rattle.lz_machine.specs.declared.event.Reply.TheVariants.{Yes, No, Full, Worn, OldFile, Halted}

-- key 9 was found in slot 0; pass 2 has changed it since, while pass 1 has linked 12
abbrev P0 : Trace
P0 = opening 1 ((9, 0) ∷ [])

abbrev since : Trace
since = marked 9 0 2 ∷ linked 12 1 1 ∷ []

alone_on_12 : OnlyOwnOf 1 12 P0 (since ++ P0)
alone_on_12 = record { since = since; goes_on = refl; all = ((λ same. absurd cc), (λ same. refl, tt)) }

since_is : (l : Trace) → since ++ P0 ≡ l ++ P0 → since ≡ l
since_is l is = append_cancel_right since l P0 is

not_alone_on_9 : OnlyOwnOf 1 9 P0 (since ++ P0) → ⊥
not_alone_on_9 h = let all : AreFor (λ q. q ≡ 1) 9 since = subst (AreFor (λ q. q ≡ 1) 9) (sym (since_is h.since h.goes_on)) h.all in absurd (omega (arith, all.0 refl))

seven_stays : Untouched 7 P0 (since ++ P0)
seven_stays = record { since = since; goes_on = refl; all = ((λ same. absurd cc), ((λ same. absurd cc), tt)) }

nine_does_not : Untouched 9 P0 (since ++ P0) → ⊥
nine_does_not h = let all : AreFor (λ q. ⊥) 9 since = subst (AreFor (λ q. ⊥) 9) (sym (since_is h.since h.goes_on)) h.all in all.0 refl

-- what is told of one key: an adding of no member, and of a member
yes_to_new : KeyRow (Add 12) Yes false true
yes_to_new = (refl, refl)

not_yes_to_member : KeyRow (Add 12) Yes true true → ⊥
not_yes_to_member h = false≢true h.0

not_yes_without_it : KeyRow (Add 12) Yes false false → ⊥
not_yes_without_it h = false≢true h.1

-- full is told of no member, and leaves it so
full_of_new : (counts : Counts) → KeyRow (Add 12) (Full counts) false false
full_of_new counts = (refl, refl)

not_full_of_member : (counts : Counts) → KeyRow (Add 12) (Full counts) true true → ⊥
not_full_of_member counts h = true≢false h.0

not_full_of_others : (counts : Counts) → KeyRow (Has 12) (Full counts) false false → ⊥
not_full_of_others counts h = h

-- one that was cut off may be done or not, and does nothing else
done : KeyRow (Remove 12) Halted true false
done = inr refl

not_done : KeyRow (Remove 12) Halted true true
not_done = inl refl

never_added : KeyRow (Remove 12) Halted false true → ⊥
never_added (inl is) = true≢false is
never_added (inr is) = true≢false is

-- a file of the older format is told of exactly for a key that it can't hold
too_old : IsKeyAnswer One (Add 3000000000000000017) OldFile false false
too_old = record { old = refl; row = refl }

not_too_old : IsKeyAnswer Two (Add 3000000000000000017) OldFile false false → ⊥
not_too_old h = true≢false h.old

not_held : IsKeyAnswer One (Add 3000000000000000017) Yes false true → ⊥
not_held h = false≢true h.old

-- one call of key 9, whose pass has seen all from P0 on
served : ServedKey Two 9 (about 9 ((Has 9, Yes) ∷ (Add 12, Yes) ∷ [])) P0 P0
served = (before, after, record { since = []; goes_on = refl; all = tt }, answers, record { since = []; goes_on = refl; all = tt }, record { since = []; goes_on = refl; all = tt })

-- three calls of the plain set that is empty
three_calls : PlainCalls Two ((Add 12, Yes) ∷ (Has 12, Yes) ∷ (Has 9, No) ∷ []) (members []) (members (12 ∷ []))
three_calls = (
  members (12 ∷ []),
  record { old = refl; row = (refl, refl) },
  λ j other. grind (arith, nat_tests),
  (
    members (12 ∷ []),
    record { old = refl; row = (refl, refl) },
    λ j other. refl,
    (members (12 ∷ []), record { old = refl; row = (refl, refl) }, λ j other. refl, λ k. refl),
  ),
)

-- with the replies to its two calls of one key exchanged it isn't one of them
two_calls : PlainCalls Two ((Has 12, No) ∷ (Add 12, Yes) ∷ (Has 12, Yes) ∷ []) (members []) (members (12 ∷ []))
two_calls = (
  members [],
  record { old = refl; row = (refl, refl) },
  λ j other. refl,
  (
    members (12 ∷ []),
    record { old = refl; row = (refl, refl) },
    λ j other. grind (arith, nat_tests),
    (members (12 ∷ []), record { old = refl; row = (refl, refl) }, λ j other. refl, λ k. refl),
  ),
)

not_exchanged : (T : Keys) → PlainCalls Two ((Has 12, Yes) ∷ (Add 12, Yes) ∷ (Has 12, No) ∷ []) (members []) T → ⊥
not_exchanged T h = false≢true h.1.row.0

-- nor is it with another key's membership changed, or with a last set that misses what was added
not_another : PlainCalls Two ((Has 12, No) ∷ []) (members []) (members (9 ∷ [])) → ⊥
not_another h = let kept = h.2 9 (λ same. absurd cc) in let end = h.3 9 in true≢false (end ∙ kept)

not_lost : PlainCalls Two ((Add 12, Yes) ∷ []) (members []) (members []) → ⊥
not_lost h = let added = h.1.row.1 in let end = h.3 12 in false≢true (end ∙ added)

-- what was told worn wasn't done, and so is no reply of the plain set
those_answered : answered_in ((Add 12, Yes) ∷ (Add 9, Worn) ∷ (Has 9, No) ∷ []) ≡ (Add 12, true) ∷ (Has 9, false) ∷ []
those_answered = refl

-- Worked rows of what one caller is told, computed on small cases.
use Rattle.std.proofs.{Common.{◌≡◌, ℕ, ◌≤◌, inr, [], ◌∷◌, ◌++◌, refl, sym, ◌∙◌, subst, arith}, lemmas.{Bool.Decides.{nat_tests}, List.{append_cancel_right}}}
use Rattle.std.{proofs.lemmas.Map.{Keys.{IsDistinct-push}, Made.{length-le_from_is_member}}, specs.Cmp.{nat_eq_equiv}}
use mathlib.Core.Bool.{false≢true, true≢false}
use Rattle.lz_slot.{specs.declared.{command.Command.TheVariants.{Add, Has}, format.Format.TheVariants.{One, Two}}, proofs.Sets.{members_among}}
use Rattle.lz_refinement.{proofs.Vocabulary.{members, HasMembers, Counts, Trace, opening, member}, specs.OnePass.{AreOwn, OnlyOwn}}
use Rattle.lz_refinement.specs.OneCaller.{keys_in, IsPlainAnswer}
use Rattle.lz_list.specs.declared.publishing.{Change.TheVariants.{Added as as_added}, Publishing.TheVariants.{Linked as linked, Settled as settled}}
use Rattle.lz_list.specs.declared.publishing.Publishing.TheVariants.{KeyPrepared as key_prepared, LinkPrepared as link_prepared}
use Rattle.lz_machine.{specs.declared.event.Reply.TheVariants.{Yes, No, Full, OldFile, Halted}, proofs.Alone.Size.{none_distinct}}

-- key 9 was found in slot 0, and pass 1 has linked 12 in slot 1 since
abbrev P0 : Trace
P0 = opening 1 ((9, 0) ∷ [])

abbrev since : Trace
since = settled 1 as_added ∷ linked 12 1 1 ∷ link_prepared 1 0 ∷ key_prepared 1 12 ∷ []

abbrev P1 : Trace
P1 = since ++ P0

its_own : OnlyOwn 1 P0 P1
its_own = record { since = since; goes_on = refl; own = (refl, tt) }

-- a linking of another pass isn't its own
not_its_own : OnlyOwn 1 P0 (linked 12 1 2 ∷ P0) → ⊥
not_its_own h = go h.since (append_cancel_right h.since (linked 12 1 2 ∷ []) P0 (sym h.goes_on)) h.own
  where
    go : (l : Trace) → l ≡ linked 12 1 2 ∷ [] → AreOwn 1 l → ⊥
    go l is own = let both : AreOwn 1 (linked 12 1 2 ∷ []) = subst (AreOwn 1) is own in absurd (omega (arith, both.0))

-- the set of 9 has one member
only_nine : (q : ℕ) → member q P0 ≡ members (9 ∷ []) q
only_nine q = grind (arith, nat_tests)

one_key : HasMembers (keys_in P0) 1
one_key = record { keys = 9 ∷ []; count = refl; distinct = IsDistinct-push nat_eq_equiv [] 9 none_distinct refl; all = only_nine }

not_more : (n : ℕ) → HasMembers (keys_in P0) n → n ≤ 1
not_more n h =
    let le = length-le_from_is_member nat_eq_equiv h.keys (9 ∷ []) h.distinct (λ q is. sym (members_among (9 ∷ []) q) ∙ sym (only_nine q) ∙ h.all q ∙ members_among h.keys q ∙ is) in
    omega (arith, le, h.count)

-- of two slots one is free for 12
yes_to_new : IsPlainAnswer Two 2 (Add 12) Yes (keys_in P0) (keys_in P1)
yes_to_new = record { old = refl; row = (refl, (1, one_key, omega arith), λ j. grind (arith, nat_tests)) }

no_to_member : IsPlainAnswer Two 2 (Add 9) No (keys_in P0) (keys_in P0)
no_to_member = record { old = refl; row = (refl, λ j. grind (arith, nat_tests)) }

yes_to_has : IsPlainAnswer Two 2 (Has 9) Yes (keys_in P0) (keys_in P0)
yes_to_has = record { old = refl; row = (refl, λ j. refl) }

not_no_to_has : IsPlainAnswer Two 2 (Has 9) No (keys_in P0) (keys_in P0) → ⊥
not_no_to_has h = true≢false h.row.0

-- the only slot is taken, but one of two isn't
full_of_one : (counts : Counts) → IsPlainAnswer Two 1 (Add 12) (Full counts) (keys_in P0) (keys_in P0)
full_of_one counts = record { old = refl; row = (refl, one_key, λ j. refl) }

not_full_of_two : (counts : Counts) → IsPlainAnswer Two 2 (Add 12) (Full counts) (keys_in P0) (keys_in P0) → ⊥
not_full_of_two counts h = let le = not_more 2 h.row.1 in absurd (omega (arith, le))

-- cut off after its linking; one that had linked nothing isn't answered yes
cut_off : IsPlainAnswer Two 2 (Add 12) Halted (keys_in P0) (keys_in P1)
cut_off = record { old = refl; row = inr (λ j. grind (arith, nat_tests)) }

not_yes : IsPlainAnswer Two 2 (Add 12) Yes (keys_in P0) (keys_in P0) → ⊥
not_yes h = false≢true (h.row.2 12)

-- a file of the older format can't hold 17 in room 3
too_old : IsPlainAnswer One 2 (Add 3000000000000000017) OldFile (keys_in P0) (keys_in P0)
too_old = record { old = refl; row = λ j. refl }

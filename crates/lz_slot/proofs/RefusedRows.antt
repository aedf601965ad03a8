-- Rows that the definitions refuse: lists that fit no history, and texts that hold no set.
use Rattle.std.proofs.Common.{◌≡◌, inl, inr, ⊎_elim, ℕ, ◌+◌, ◌*◌, ◌≤◌, ◌<◌, suc, true, false, List, [], ◌∷◌, ◌++◌, replicate, refl, sym, subst, arith}
use Rattle.std.proofs.lemmas.Bool.{true≢false}
use Rattle.lz_slot.specs.{Sets.{Keys, members}, Histories.{History, Fits, IsCalled, ChainTo, lives, count_of}, Bytes.{Holds, header_body, slot_body}}
use Rattle.lz_slot.specs.declared.{command.Command.{Command, TheVariants.{Add}}, history.HistoryEvent.TheVariants.{Call, Answer, Refused, Crash, Opened}}
use Rattle.lz_slot.specs.declared.{history.Refusal.TheVariants.{Full}, format.Format.TheVariants.{One}}

-- one answered call
abbrev added : History
added = Answer 1 true ∷ Call 1 1 (Add 9) ∷ []

-- a call that is listed twice
twice_fits_none : (S T : Keys) → Fits S added (1 ∷ 1 ∷ []) T → ⊥
twice_fits_none S T fits = let once : 2 ≤ 1 = fits.once 1 in absurd (omega arith)

-- an answered call that isn't listed
left_out_fits_none : (S T : Keys) → Fits S added [] T → ⊥
left_out_fits_none S T fits = fits.answered 1 true (inl refl)

-- a refused call that is listed
refused_fits_none : (S T : Keys) → Fits S (Refused 1 Full ∷ Call 1 1 (Add 9) ∷ []) (1 ∷ []) T → ⊥
refused_fits_none S T fits = fits.not_refused 1 (Full, inl refl) (inl refl)

-- a call that was made once another was answered, listed before that one
late_first_fits_none : (S T : Keys) → Fits S (Answer 2 false ∷ Call 2 1 (Add 9) ∷ added) (2 ∷ 1 ∷ []) T → ⊥
late_first_fits_none S T fits =
    ⊎_elim
    (λ first. absurd (omega (arith, first.0)))
    (⊎_elim (λ second. second.1) (λ none. none))
    (fits.order 1 2 (inr (inl (1, Add 9, true, refl, inl refl))) (inr (inl refl)) (inl refl))

-- the one call that was made
called_is : (i : ℕ) (c : Command) → IsCalled added i c → (i ≡ 1) × (c ≡ Add 9)
called_is i c (actor, inl is) = absurd (cc)
called_is i c (actor, inr (inl is)) = (cc, cc)
called_is i c (actor, inr (inr none)) = absurd none

-- a list that fits it says nothing of another key
other_key : (S T : Keys) (L : List ℕ) → Fits S added L T → S 8 ≡ T 8
other_key S T [] fits = absurd (fits.answered 1 true (inl refl))
other_key S T (i ∷ []) fits = grind (arith, called_is)
other_key S T (i ∷ j ∷ L) fits =
    let step = fits.runs in
    let first = called_is i step.0 step.1 in
    let second = called_is j step.3.0 step.3.1 in
    let once : suc (suc (count_of 1 L)) ≤ 1 = subst (λ (n : ℕ). count_of 1 (1 ∷ n ∷ L) ≤ 1) second.0 (subst (λ (n : ℕ). count_of 1 (n ∷ j ∷ L) ≤ 1) first.0 (fits.once 1)) in
    absurd (omega arith)

-- a life that begins with another set than the one before it led to
other_start_is_no_chain : (T : Keys) → ChainTo (lives (members []) (Opened (8 ∷ []) ∷ Crash ∷ added)) T → ⊥
other_start_is_no_chain T (L, newest, (M, first, rest)) = true≢false (sym (other_key (members []) (members (8 ∷ [])) M first))

-- a text of two slots that hold one key
twins : List ℕ
twins = (0xa5 ∷ header_body One 2) ++ (0xa5 ∷ slot_body 17) ++ (0xa5 ∷ slot_body 17)

twins_hold_none : (N : ℕ) (S : Keys) → Holds twins N S → ⊥
unfolding twins
twins_hold_none N S holds =
    let size : 48 ≡ 16 + 16 * N = holds.size in
    let low : 1 < N = omega arith in
    absurd (omega (arith, holds.no_key_twice 0 1 17 (omega arith) low refl refl))

-- a text of one slot with a bad key
bad : List ℕ
bad = (0xa5 ∷ header_body One 1) ++ (0xa5 ∷ 1 ∷ replicate 14 0)

bad_holds_none : (N : ℕ) (S : Keys) → Holds bad N S → ⊥
unfolding bad
bad_holds_none N S holds =
    let size : 32 ≡ 16 + 16 * N = holds.size in
    holds.no_bad_key 0 (omega arith) refl

-- A judge's yes leaves no flaw.
use Rattle.std.proofs.Common.{◌≡◌, inl, inr, ⊎_elim, ◌↔◌, ℕ, ◌<◌, Bool, true, List, [], ◌∷◌, ◌++◌, sym, refl, ◌∙◌, ap, subst, arith, BTreeMap}
use Rattle.std.proofs.lemmas.{Bool.Decides.{eqb_tells}, Option.{same_Some}}
use Rattle.lz_slot.specs.{Sets.{Keys, Same, key_of, members, reply}, declared.{command.Command.{Command}, history.HistoryEvent.{HistoryEvent, TheVariants.{Call, Opened}}}}
use Rattle.lz_slot.specs.Histories.{IsAnswered, IsCalled, IsEarlier, IsListed, Runs, lives}
use Rattle.lz_judge.specs.{Records.{IsLawful, IsMade, IsPoint, Record}, Flaws.{IsFlaw, IsInOrder, IsLifeBefore, IsReached, IsWrongSet, Leads, OrderedChain}}
use Rattle.lz_judge.specs.{declared.flaw.Flaw.{Flaw, TheVariants.{WrongReply, WrongSet}}, Readings.{IsAt, is_made}, Plays.{IsKnown, lives_before, this_start}}
use Rattle.lz_judge.{specs.Verdicts.{AreCalled, AreListed}, proofs.Lives.{FirstFlaw.{behind_order}, LawfulHistory.{made_more}, ListFront.{front_is}}}
use Rattle.lz_judge.proofs.Lives.WholeRun.{AreApart, RunIs, chain_before, chain_run, run_leads, run_replies}

-- a call that is counted was made
pub is_made_tells : (M : List HistoryEvent) (i : ℕ) → is_made M i ≡ true → IsMade M i
is_made_tells [] i is = absurd (cc)
is_made_tells (Call j a c ∷ M) i is = elim (eqb_tells j i) [
  | inl t ↦ (c, (a, inl (ap (λ (n : ℕ). Call n a c) t.1)))
  | inr f ↦ made_more (Call j a c) M i (is_made_tells M i (rw f.0 at is))
]
is_made_tells (m ∷ M) i is = made_more m M i (is_made_tells M i is)

-- the list up to a call, and after it
record Split (i : ℕ) (L : List ℕ) : Type 0 where
  front : List ℕ
  rest : List ℕ
  is : L ≡ front ++ i ∷ rest

split_at : (i : ℕ) (L : List ℕ) → IsListed i L → Split i L
split_at i [] is = absurd is
split_at i (j ∷ L) (inl here) = record { front = []; rest = L; is = ap (λ (n : ℕ). n ∷ L) here }
split_at i (j ∷ L) (inr there) = let later = split_at i L there in record { front = j ∷ later.front; rest = later.rest; is = ap (λ (l : List ℕ). j ∷ l) later.is }

module _ (at : ℕ → ℕ → Type 0) (one : (i p q : ℕ) → at i p → at i q → p ≡ q) where
  abbrev Ascends : List ℕ → Type 0
  Ascends L = (i j p q : ℕ) → IsEarlier i j L → at i p → at j q → p < q

  abbrev Placed : List ℕ → Type 0
  Placed L = (i : ℕ) → IsListed i L → (p : ℕ) × at i p

  not_again : (i : ℕ) (L : List ℕ) → Ascends (i ∷ L) → Placed (i ∷ L) → IsListed i L → ⊥
  not_again i L up have is = let (p, here) = have i (inl refl) in let lt = up i i p p (inl (refl, is)) here here in omega (arith, lt)

  -- the calls of a list stand in one order alone
  first_is : (i j : ℕ) (L R : List ℕ) → Ascends (i ∷ L) → Ascends (j ∷ R) → Placed (i ∷ L) → Placed (j ∷ R) → IsListed i (j ∷ R) → IsListed j (i ∷ L) → i ≡ j
  first_is i j L R up up' have have' (inl here) is' = sym here
  first_is i j L R up up' have have' (inr there) (inl here') = here'
  first_is i j L R up up' have have' (inr there) (inr there') =
      let (p, is) = have i (inl refl) in
      let (q, is') = have' j (inl refl) in
      let low = up i j p q (inl (refl, there')) is is' in
      let high = up' j i q p (inl (refl, there)) is' is in
      absurd (omega (arith, low, high))

  only_order : (L R : List ℕ) → Ascends L → Ascends R → Placed L → Placed R → ((k : ℕ) → IsListed k L ↔ IsListed k R) → L ≡ R
  only_order [] [] up up' have have' same = refl
  only_order [] (j ∷ R) up up' have have' same = absurd ((same j).1 (inl refl))
  only_order (i ∷ L) [] up up' have have' same = absurd ((same i).0 (inl refl))
  only_order (i ∷ L) (j ∷ R) up up' have have' same =
      let e : i ≡ j = first_is i j L R up up' have have' ((same i).0 (inl refl)) ((same j).1 (inl refl)) in
      let rest : L ≡ R = only_order L R (λ k l p q is. up k l p q (inr is)) (λ k l p q is. up' k l p q (inr is)) (λ k is. have k (inr is)) (λ k is. have' k (inr is))
      (λ k. (
        λ is. ⊎_elim (λ here. absurd (not_again i L up have (subst (λ (n : ℕ). IsListed n L) (sym here ∙ sym e) is))) (λ there. there) ((same k).0 (inr is)),
        λ is. ⊎_elim (λ here. absurd (not_again j R up' have' (subst (λ (n : ℕ). IsListed n R) (sym here ∙ e) is))) (λ there. there) ((same k).1 (inr is)),
      )) in
      ap (λ (n : ℕ). n ∷ L) e ∙ ap (λ (l : List ℕ). j ∷ l) rest

  module _ (M : List HistoryEvent) (T : Keys) (lawful : IsLawful M) (run : RunIs at M T) where
    -- an open that finds the set of the run isn't wrong
    whole_same : (L : List ℕ) (U : Keys) → IsInOrder at M L → Leads M (members []) L U → Same T U
    whole_same L U order leads =
        let same : run.list ≡ L = only_order run.list L run.in_order.ascending order.ascending (λ i is. ((run.in_order.each i).0 is).1) (λ i is. ((order.each i).0 is).1)
        (λ k. (λ is. (order.each k).1 ((run.in_order.each k).0 is), λ is. (run.in_order.each k).1 ((order.each k).0 is))) in
        run_leads M lawful run.list (members []) T (members []) U (λ k. refl) run.runs (subst (λ (l : List ℕ). Leads M (members []) l U) (sym same) leads)

    -- each answered call has the right answer
    right_reply : (i : ℕ) (S : Keys) (c : Command) (b : Bool) → IsReached at M i S → IsCalled M i c → IsAnswered M i b → reply c (S (key_of c)) ≡ b
    right_reply i S c b reached called told =
        let parts = split_at i run.list ((run.in_order.each i).1 ((c, called), (reached.place, reached.here))) in
        let front = front_is at one M parts.front parts.rest i reached.place (subst (IsInOrder at M) parts.is run.in_order) reached.here in
        let same : parts.front ≡ reached.list = only_order parts.front reached.list front.ascending reached.ascending
        (λ j is. let (made, (p, here, lt)) = (front.each j).0 is in (p, here))
        (λ j is. let (made, (p, here, lt)) = (reached.each j).0 is in (p, here))
        (λ k. (λ is. (reached.each k).1 ((front.each k).0 is), λ is. (front.each k).1 ((reached.each k).0 is))) in
        run_replies M lawful parts.front parts.rest i (members []) T (members []) S c b (λ k. refl) (subst (λ (l : List ℕ). Runs M (members []) l T) parts.is run.runs) (subst (λ (l : List ℕ). Leads M (members []) l S) (sym same) reached.leads) called told

  -- no open of a chain found another set
  right_sets : (M : List HistoryEvent) (T : Keys) (n : ℕ) → IsLawful M → AreApart at M → OrderedChain at (lives (members []) M) T → IsWrongSet at M n → ⊥
  right_sets M T n lawful apart chain wrong = before M n lawful apart (chain_before at M T chain) wrong
    where
      before : (M : List HistoryEvent) (n : ℕ) → IsLawful M → AreApart at M → OrderedChain at (lives_before M) (this_start M) → IsWrongSet at M n → ⊥
      before [] n lawful apart chain wrong = wrong
      before (Opened keys ∷ M) n lawful apart chain wrong =
          let earlier = λ (i j p q : ℕ) (is : at i p) (is' : at j q) (later : IsLifeBefore M i j). apart i j p q is is' (inr later) in
          ⊎_elim
          (λ (is, (L, U, order, leads, differs)).
          let same = whole_same M (members keys) lawful.1 (chain_run at M (members keys) lawful.1 earlier chain) L U order leads in
          differs (λ k. sym (same k)))
          (λ rest. before M n lawful.1 earlier (chain_before at M (members keys) chain) rest)
          wrong
      before (_ ∷ M) n lawful apart chain wrong = before M n lawful.1 (λ i j p q is is' later. apart i j p q is is' (inr later)) chain wrong

-- no flaw at all
pub flawless : (h : Record) (places : BTreeMap ℕ ℕ) (answers : BTreeMap ℕ Bool) (T : Keys) → IsKnown places answers h.marks → AreListed h.marks h.points places → AreCalled h.marks h.points
    → ((i p : ℕ) → IsAt places i p ↔ IsPoint h.points i p) → OrderedChain (IsPoint h.points) (lives (members []) h.marks) T → (flaw : Flaw) → IsFlaw h flaw → ⊥
flawless h places answers T known listed called same chain flaw is = of flaw is
  where
    place : (i p : ℕ) → IsPoint h.points i p → IsAt places i p
    place i p = (same i p).1

    one : (i p q : ℕ) → IsPoint h.points i p → IsPoint h.points i q → p ≡ q
    one i p q is is' = same_Some p q (sym (place i p is) ∙ place i q is')

    apart : AreApart (IsPoint h.points) h.marks
    apart i j p q is is' before = known.lives i j p q (place i p is) (place j q is') before

    run : RunIs (IsPoint h.points) h.marks T
    run = chain_run (IsPoint h.points) h.marks T known.lawful apart chain

    of : (flaw : Flaw) → IsFlaw h flaw → ⊥
    of (WrongReply i) (S, c, b, reached, at, told, differs) = differs (right_reply (IsPoint h.points) one h.marks T known.lawful run i S c b reached at told)
    of (WrongSet n) wrong = right_sets (IsPoint h.points) one h.marks T n known.lawful apart chain wrong
    of flaw is = let before = behind_order h places listed called same answers known flaw is in omega (arith, before)

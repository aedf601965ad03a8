-- One mark more in the pass over the order of the calls.
use Rattle.std.specs.BTreeMap as tree
use Rattle.std.specs.BTreeSet as set
use Rattle.std.proofs.Common.{◌≡◌, ◌≢◌, ◌⊎◌, inl, inr, ⊎_elim, ℕ, ◌+◌, ◌<◌, ◌≤◌, max, Bool, true, false, List, [], ◌∷◌, sym, refl, ◌∙◌, ap, subst, arith}
use Rattle.std.proofs.{Common.{Option, Some, None, BTreeMap, BTreeSet, nat_cmp}, lemmas.{Grind.{common_steps}, Option.{same_Some}, Bool.{cases_eq, cases_lt}}}
use Rattle.lz_slot.specs.declared.{command.Command.{Command}, history.HistoryEvent.{HistoryEvent, TheVariants.{Call, Answer, Opened}}}
use Rattle.lz_judge.specs.{Records.{IsMade}, Flaws.{IsMisplaced, IsPast}, Readings.{Floored, IsAt, Ordered}}
use Rattle.lz_judge.proofs.{Lives.LawfulHistory.{made_cases, made_less, made_more}, Readings.NextMark.{IsLesser, lesser_one, lesser_some}}

misplaced_more : (M : List HistoryEvent) (m : HistoryEvent) (i j p q : ℕ) → IsMisplaced M i j p q → IsMisplaced (m ∷ M) i j p q
misplaced_more M m i j p q (made, why) = (inr made, ⊎_elim (λ same. inl same) (λ (order, le). inr (⊎_elim (λ told. inl (inr told)) (λ past. inr (inr past)) order, le)) why)

-- a call whose point an earlier call forbids
abbrev IsForbidden : List HistoryEvent → BTreeMap ℕ ℕ → ℕ → Type 0
IsForbidden M places j = (i : ℕ) × (p : ℕ) × (q : ℕ) × IsAt places i p × IsAt places j q × IsMisplaced M i j p q

forbidden_more : (M : List HistoryEvent) (m : HistoryEvent) (places : BTreeMap ℕ ℕ) (j : ℕ) → IsForbidden M places j → IsForbidden (m ∷ M) places j
forbidden_more M m places j (i, p, q, at, at', why) = (i, p, q, at, at', misplaced_more M m i j p q why)

-- a call at a place
same_place : (places : BTreeMap ℕ ℕ) (i j p q : ℕ) → j ≡ i → IsAt places i p → IsAt places j q → p ≡ q
same_place places i j p q same at at' = same_Some p q (sym at ∙ ap (tree.get nat_cmp places) (sym same) ∙ at')

-- nothing has come
pub floored_none : (places : BTreeMap ℕ ℕ) (used : BTreeSet ℕ) → used.keys ≡ [] → Floored [] places 0 0 used None
floored_none places used none = grind arith

module _ (M : List HistoryEvent) (places : BTreeMap ℕ ℕ) (floor top : ℕ) (used : BTreeSet ℕ) (least : Option ℕ) (so_far : Floored M places floor top used least) where
  -- a mark that is no call
  ordered_other : (m : HistoryEvent) → ((j a : ℕ) (c : Command) → m ≢ Call j a c) → Ordered (m ∷ M) places least
  ordered_other m no_call = grind (arith, forbidden_more)

  -- a mark that changes nothing
  floored_other : (m : HistoryEvent) → ((j a : ℕ) (c : Command) → m ≢ Call j a c) → ((j : ℕ) (b : Bool) → m ≢ Answer j b)
      → ((i : ℕ) → IsPast (m ∷ M) i → IsPast M i) → ((i : ℕ) → IsPast M i → IsPast (m ∷ M) i) → Floored (m ∷ M) places floor top used least
  floored_other m no_call no_answer past_less past_more = record {
    answered = λ i b p is at. so_far.answered i b p (⊎_elim (λ here. absurd (no_answer i b here)) (λ there. there) is) at;
    past = λ i p is at. so_far.past i p (past_less i is) at;
    floor_is = λ q lt. let (i, p, at, le, made, why) = so_far.floor_is q lt in
        (i, p, at, le, made_more m M i made, ⊎_elim (λ (b, told). inl (b, inr told)) (λ past. inr (past_more i past)) why);
    made = λ i p is at. so_far.made i p (made_less m M i no_call is) at;
    top_is = λ q lt. let (i, p, at, le, made) = so_far.top_is q lt in (i, p, at, le, made_more m M i made);
    used_is = λ p is. let (i, made, at) = so_far.used_is p is in (i, made_more m M i made, at);
    order = ordered_other m no_call;
  }

  pub floored_rest : (m : HistoryEvent) → ((j a : ℕ) (c : Command) → m ≢ Call j a c) → ((j : ℕ) (b : Bool) → m ≢ Answer j b) → ((keys : List ℕ) → m ≢ Opened keys) → Floored (m ∷ M) places floor top used least
  floored_rest (Call j a c) no_call no_answer no_open = absurd (no_call j a c refl)
  floored_rest (Answer j b) no_call no_answer no_open = absurd (no_answer j b refl)
  floored_rest (Opened keys) no_call no_answer no_open = absurd (no_open keys refl)
  floored_rest m no_call no_answer no_open = floored_other m no_call no_answer (λ i is. is) (λ i is. is)

  -- the answer of a call without a point
  pub floored_untold : (i : ℕ) (b : Bool) → tree.get nat_cmp places i ≡ None → Floored (Answer i b ∷ M) places floor top used least
  floored_untold i b none = record {
    answered = λ j d p is at. ⊎_elim
        (λ here. absurd (let same : i ≡ j = cc in let e : None ≡ Some p = sym none ∙ ap (tree.get nat_cmp places) same ∙ at in cc))
        (λ there. so_far.answered j d p there at)
        is;
    past = so_far.past;
    floor_is = λ q lt. let (j, p, at, le, made, why) = so_far.floor_is q lt in
        (j, p, at, le, made_more (Answer i b) M j made, ⊎_elim (λ (d, told). inl (d, inr told)) (λ past. inr past) why);
    made = λ j p is at. so_far.made j p (made_less (Answer i b) M j (λ j' a c e. cc) is) at;
    top_is = λ q lt. let (j, p, at, le, made) = so_far.top_is q lt in (j, p, at, le, made_more (Answer i b) M j made);
    used_is = λ p is. let (j, made, at) = so_far.used_is p is in (j, made_more (Answer i b) M j made, at);
    order = ordered_other (Answer i b) (λ j' a c e. cc);
  }

  -- the answer of a call with one
  pub floored_told : (i : ℕ) (b : Bool) (p floor' : ℕ) → IsAt places i p → IsMade M i → floor' ≡ max floor (p + 1) → Floored (Answer i b ∷ M) places floor' top used least
  floored_told i b p floor' at_p made_i raised = record {
    answered = λ j d q is at. ⊎_elim
        (λ here. let same : i ≡ j = cc in let e = same_place places j i q p same at at_p in omega (arith, e, raised))
        (λ there. let lt = so_far.answered j d q there at in omega (arith, lt, raised))
        is;
    past = λ j q is at. let lt = so_far.past j q is at in omega (arith, lt, raised);
    floor_is = λ q lt. ⊎_elim
        (λ low. let (j, r, at, le, made, why) = so_far.floor_is q low in
        (j, r, at, le, made_more (Answer i b) M j made, ⊎_elim (λ (d, told). inl (d, inr told)) (λ past. inr past) why))
        (λ high. (i, p, at_p, omega (arith, lt, high, raised), made_more (Answer i b) M i made_i, inl (b, inl refl)))
        (cases_lt q floor);
    made = λ j q is at. so_far.made j q (made_less (Answer i b) M j (λ j' a c e. cc) is) at;
    top_is = λ q lt. let (j, r, at, le, made) = so_far.top_is q lt in (j, r, at, le, made_more (Answer i b) M j made);
    used_is = λ q is. let (j, made, at) = so_far.used_is q is in (j, made_more (Answer i b) M j made, at);
    order = ordered_other (Answer i b) (λ j' a c e. cc);
  }

  -- the next life begins
  pub floored_opened : (keys : List ℕ) (floor' : ℕ) → floor' ≡ max floor top → Floored (Opened keys ∷ M) places floor' top used least
  floored_opened keys floor' raised = record {
    answered = λ j d q is at. ⊎_elim (λ here. absurd (cc)) (λ there. let lt = so_far.answered j d q there at in omega (arith, lt, raised)) is;
    past = λ j q is at. let lt = so_far.made j q is at in omega (arith, lt.0, raised);
    floor_is = λ q lt. ⊎_elim
        (λ low. let (j, r, at, le, made, why) = so_far.floor_is q low in (j, r, at, le, made_more (Opened keys) M j made, inr made))
        (λ high. let (j, r, at, le, made) = so_far.top_is q (omega (arith, lt, high, raised)) in (j, r, at, le, made_more (Opened keys) M j made, inr made))
        (cases_lt q floor);
    made = λ j q is at. so_far.made j q (made_less (Opened keys) M j (λ j' a c e. cc) is) at;
    top_is = λ q lt. let (j, r, at, le, made) = so_far.top_is q lt in (j, r, at, le, made_more (Opened keys) M j made);
    used_is = λ q is. let (j, made, at) = so_far.used_is q is in (j, made_more (Opened keys) M j made, at);
    order = ordered_other (Opened keys) (λ j' a c e. cc);
  }

  -- a call without a point
  pub floored_unlisted : (j a : ℕ) (c : Command) → tree.get nat_cmp places j ≡ None → Floored (Call j a c ∷ M) places floor top used least
  floored_unlisted j a c none = record {
    answered = λ i d q is at. ⊎_elim (λ here. absurd (cc)) (λ there. so_far.answered i d q there at) is;
    past = so_far.past;
    floor_is = λ q lt. let (i, p, at, le, made, why) = so_far.floor_is q lt in
        (i, p, at, le, made_more (Call j a c) M i made, ⊎_elim (λ (d, told). inl (d, inr told)) (λ past. inr past) why);
    made = λ i p is at. ⊎_elim (λ here. absurd (never i p here at)) (λ there. so_far.made i p there at) (made_cases j a c M i is);
    top_is = λ q lt. let (i, r, at, le, made) = so_far.top_is q lt in (i, r, at, le, made_more (Call j a c) M i made);
    used_is = λ q is. let (i, made, at) = so_far.used_is q is in (i, made_more (Call j a c) M i made, at);
    order = record {
      found = λ k is. forbidden_more M (Call j a c) places k (so_far.order.found k is);
      apart = λ n i k p q at at' is. ⊎_elim (λ (actor, d, here, made). absurd (let same : j ≡ k = cc in never k q same at')) (λ there. so_far.order.apart n i k p q at at' there) is;
      before = λ n i k p q at at' is. ⊎_elim (λ (actor, d, b, here, told). absurd (let same : j ≡ k = cc in never k q same at')) (λ there. so_far.order.before n i k p q at at' there) is;
      lives = λ n i k p q at at' is. ⊎_elim (λ (actor, d, here, past). absurd (let same : j ≡ k = cc in never k q same at')) (λ there. so_far.order.lives n i k p q at at' there) is;
    };
  }
    where
      never : (k q : ℕ) → j ≡ k → IsAt places k q → ⊥
      never k q same at = let e : None ≡ Some q = sym none ∙ ap (tree.get nat_cmp places) same ∙ at in cc

  -- a call with a point
  module _ (j a : ℕ) (c : Command) (q top' : ℕ) (used' : BTreeSet ℕ) (at_q : IsAt places j q) (raised : top' ≡ max top (q + 1)) (updates : set.Updates nat_cmp used used' q true) where
    floored_called : (least' : Option ℕ) → Ordered (Call j a c ∷ M) places least' → Floored (Call j a c ∷ M) places floor top' used' least'
    floored_called least' order = record {
      answered = λ i d r is at. ⊎_elim (λ here. absurd (cc)) (λ there. so_far.answered i d r there at) is;
      past = so_far.past;
      floor_is = λ r lt. let (i, p, at, le, made, why) = so_far.floor_is r lt in
          (i, p, at, le, made_more (Call j a c) M i made, ⊎_elim (λ (d, told). inl (d, inr told)) (λ past. inr past) why);
      made = λ i p is at. ⊎_elim
          (λ here. let e = same_place places i j p q here at at_q in (omega (arith, e, raised), subst (λ (r : ℕ). set.contains nat_cmp used' r ≡ true) (sym e) used_here))
          (λ there. let old = so_far.made i p there at in (omega (arith, old.0, raised), used_more p old.1))
          (made_cases j a c M i is);
      top_is = λ r lt. ⊎_elim
          (λ low. let (i, p, at, le, made) = so_far.top_is r low in (i, p, at, le, made_more (Call j a c) M i made))
          (λ high. (j, q, at_q, omega (arith, lt, high, raised), (c, (a, inl refl))))
          (cases_lt r top);
      used_is = λ r is. ⊎_elim
          (λ same. (j, (c, (a, inl refl)), at_q ∙ ap (λ (n : ℕ). Some n) same))
          (λ apart. let (i, made, at) = so_far.used_is r (used_less r apart is) in (i, made_more (Call j a c) M i made, at))
          (cases_eq q r);
      order = order;
    }
      where
        used_here : set.contains nat_cmp used' q ≡ true
        used_here = grind (arith, common_steps, updates.0 q)

        used_more : (r : ℕ) → set.contains nat_cmp used r ≡ true → set.contains nat_cmp used' r ≡ true
        used_more r is = grind (arith, common_steps, updates.0 r)

        used_less : (r : ℕ) → q ≢ r → set.contains nat_cmp used' r ≡ true → set.contains nat_cmp used r ≡ true
        used_less r apart is = grind (arith, common_steps, updates.0 r)

    -- it lies where it may
    pub floored_fine : set.contains nat_cmp used q ≡ false → floor ≤ q → Floored (Call j a c ∷ M) places floor top' used' least
    floored_fine fresh high = floored_called least (record {
      found = λ k is. forbidden_more M (Call j a c) places k (so_far.order.found k is);
      apart = λ n i k p r at at' is. ⊎_elim
          (λ (actor, d, here, made) same.
          let is_k : j ≡ k = cc in
          let e = same_place places k j r q is_k at' at_q in
          let taken = (so_far.made i p made at).1 in
          let taken_q = subst (λ (n : ℕ). set.contains nat_cmp used n ≡ true) (same ∙ e) taken in
          let no : false ≡ true = sym fresh ∙ taken_q in absurd (cc))
          (λ there. so_far.order.apart n i k p r at at' there)
          is;
      before = λ n i k p r at at' is. ⊎_elim
          (λ (actor, d, b, here, told).
          let is_k : j ≡ k = cc in
          let e = same_place places k j r q is_k at' at_q in
          let lt = so_far.answered i b p told at in omega (arith, e, lt, high))
          (λ there. so_far.order.before n i k p r at at' there)
          is;
      lives = λ n i k p r at at' is. ⊎_elim
          (λ (actor, d, here, past).
          let is_k : j ≡ k = cc in
          let e = same_place places k j r q is_k at' at_q in
          let lt = so_far.past i p past at in omega (arith, e, lt, high))
          (λ there. so_far.order.lives n i k p r at at' there)
          is;
    })

    -- it lies where it may not
    pub floored_bad : (least' : Option ℕ) → IsLesser least j least' → (set.contains nat_cmp used q ≡ true) ⊎ (q < floor) → Floored (Call j a c ∷ M) places floor top' used' least'
    floored_bad least' lesser why = floored_called least' (record {
      found = lesser_one (IsForbidden (Call j a c ∷ M) places) least j least' lesser forbidden (λ k is. forbidden_more M (Call j a c) places k (so_far.order.found k is));
      apart = λ n. absurd (lesser_some least j least' lesser n);
      before = λ n. absurd (lesser_some least j least' lesser n);
      lives = λ n. absurd (lesser_some least j least' lesser n);
    })
      where
        forbidden : IsForbidden (Call j a c ∷ M) places j
        forbidden = ⊎_elim
            (λ taken. let (i, made, at) = so_far.used_is q taken in (i, q, q, at, at_q, (inl (a, c, refl, made), inl refl)))
            (λ low.
            let (i, p, at, le, made, reason) = so_far.floor_is q low in
            (i, p, q, at, at_q, (inl (a, c, refl, made), inr (⊎_elim (λ (b, told). inl (inl (a, c, b, refl, told))) (λ past. inr (inl (a, c, refl, past))) reason, le))))
            why

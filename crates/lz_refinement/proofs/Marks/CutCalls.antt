-- Where a history shows that a call was cut off, it is one of its pass's own calls that was.
use Rattle.std.proofs.Common.{arith, ◌≡◌, ◌≢◌, ◌⊎◌, inl, inr, ⊎_elim, ℕ, ◌≤◌, Bool, true, false, List, [], ◌∷◌, Some, None, refl, sym, ◌∙◌, subst, eq-eqb, ◌==◌}
use Rattle.std.proofs.{Common.{if◌then◌else◌, Option, eqb-true, true≢false}, lemmas.Bool.Decides.{nat_tests}}
use Rattle.lz_refinement.{proofs.Vocabulary.{Command, HistoryEvent, History, IsCalled, IsOpenCall, IsTold, MayFollow}, specs.Marks.{AreOfPasses, NoneIsCut}}
use Rattle.lz_refinement.specs.OwnCalls.{AsCut, Ending, SeenCall, calls_of, ended}
use Rattle.lz_slot.specs.declared.history.{Cut.{Cut as WhyCut}, HistoryEvent.TheVariants.{Call, Answer, Refused, Cut, Stop, Crash, Opened, OpenFailed}}

-- the ending of a call that was cut off
abbrev pub is_cut : Option Ending → Bool
is_cut (Some (AsCut why)) = true
is_cut e = false

-- call i is among them
abbrev HasNumber : ℕ → List SeenCall → Type 0
HasNumber i [] = ⊥
HasNumber i (call ∷ calls) = (call.number ≡ i) ⊎ HasNumber i calls

-- call i is among them, and was cut off
abbrev pub HasCut : ℕ → List SeenCall → Type 0
HasCut i [] = ⊥
HasCut i (call ∷ calls) = ((call.number ≡ i) × (is_cut call.ending ≡ true)) ⊎ HasCut i calls

module _ (j : ℕ) (e : Ending) where
  abbrev either : Bool → SeenCall → List SeenCall → List SeenCall
  either b call calls = if b then record { number = call.number; command = call.command; ending = Some e } ∷ calls else call ∷ ended j e calls

  -- an ending leaves each call its number
  ended_has : (i : ℕ) (calls : List SeenCall) → HasNumber i calls → HasNumber i (ended j e calls)
  ended_has i [] none = none
  ended_has i (call ∷ calls) has = go (call.number == j) (λ further. ended_has i calls further) has
    where
      go : (b : Bool) → (HasNumber i calls → HasNumber i (ended j e calls)) → HasNumber i (call ∷ calls) → HasNumber i (either b call calls)
      go true rest has = has
      go false rest (inl here) = inl here
      go false rest (inr further) = inr (rest further)

  -- and each other call as it was
  ended_keeps : (i : ℕ) → j ≢ i → (calls : List SeenCall) → HasCut i calls → HasCut i (ended j e calls)
  ended_keeps i other [] none = none
  ended_keeps i other (call ∷ calls) has = go (call.number == j) refl (λ further. ended_keeps i other calls further) has
    where
      go : (b : Bool) → (call.number == j) ≡ b → (HasCut i calls → HasCut i (ended j e calls)) → HasCut i (call ∷ calls) → HasCut i (either b call calls)
      go true same rest (inl here) = absurd (other (sym (eqb-true call.number j same) ∙ here.0))
      go true same rest (inr further) = inr further
      go false same rest (inl here) = inl here
      go false same rest (inr further) = inr (rest further)

-- a call that is cut off is among those that were
ended_cuts : (i : ℕ) (why : WhyCut) (calls : List SeenCall) → HasNumber i calls → HasCut i (ended i (AsCut why) calls)
ended_cuts i why [] none = none
ended_cuts i why (call ∷ calls) has = go (call.number == i) refl (λ further. ended_cuts i why calls further) has
  where
    go : (b : Bool) → (call.number == i) ≡ b → (HasNumber i calls → HasCut i (ended i (AsCut why) calls)) → HasNumber i (call ∷ calls)
        → HasCut i (either i (AsCut why) b call calls)
    go true same rest has = inl (eqb-true call.number i same, refl)
    go false same rest (inl here) = absurd (true≢false (sym (eq-eqb call.number i here) ∙ same))
    go false same rest (inr further) = inr (rest further)

module _ (n : ℕ) where
  -- an open call is one of its pass's, which is one of so many
  record IsOfPass (M : History) (i p : ℕ) : Type 0 where
    low : 1 ≤ p
    high : p ≤ n
    called : (c : Command) × IsCalled M i c
    own : HasNumber i (calls_of p M)

  later : (m : HistoryEvent) (M : History) (i : ℕ) → ((c : Command) × IsCalled M i c) → (c : Command) × IsCalled (m ∷ M) i c
  later m M i called = (called.0, (called.1.0, inr called.1.1))

  own_call : (M : History) (i p : ℕ) → AreOfPasses n M → IsOpenCall M i p → IsOfPass M i p
  own_call [] i p of stands = absurd stands
  own_call (Call j q c ∷ M) i p of stands = ⊎_elim first (λ was. rest (own_call M i p of.2 was)) stands
    where
      in_all : (b : Bool) → HasNumber i (calls_of p M) → HasNumber i (if b then record { number = j; command = c; ending = None } ∷ calls_of p M else calls_of p M)
      in_all true has = inr has
      in_all false has = has

      first : (j ≡ i) × (q ≡ p) → IsOfPass (Call j q c ∷ M) i p
      first same = record {
        low = subst (λ (k : ℕ). 1 ≤ k) same.1 of.0;
        high = subst (λ (k : ℕ). k ≤ n) same.1 of.1;
        called = subst (λ (k : ℕ). (d : Command) × IsCalled (Call j q c ∷ M) k d) same.0 (c, (q, inl refl));
        own = subst (λ (b : Bool). HasNumber i (if b then record { number = j; command = c; ending = None } ∷ calls_of p M else calls_of p M)) (sym (eq-eqb q p same.1)) (inl same.0);
      }

      rest : IsOfPass M i p → IsOfPass (Call j q c ∷ M) i p
      rest h = record { low = h.low; high = h.high; called = later (Call j q c) M i h.called; own = in_all (q == p) h.own }
  own_call (Answer j answer ∷ M) i p of stands = let h = own_call M i p of stands.1 in record { low = h.low; high = h.high; called = later _ M i h.called; own = ended_has j _ i (calls_of p M) h.own }
  own_call (Refused j why ∷ M) i p of stands = let h = own_call M i p of stands.1 in record { low = h.low; high = h.high; called = later _ M i h.called; own = ended_has j _ i (calls_of p M) h.own }
  own_call (Cut j why ∷ M) i p of stands = let h = own_call M i p of stands.1 in record { low = h.low; high = h.high; called = later _ M i h.called; own = ended_has j _ i (calls_of p M) h.own }
  own_call (Stop ∷ M) i p of stands = absurd stands
  own_call (Crash ∷ M) i p of stands = absurd stands
  own_call (Opened keys ∷ M) i p of stands = absurd stands
  own_call (OpenFailed number ∷ M) i p of stands = absurd stands

  -- one of so many passes has a call that was cut off, and that has ended
  pub record IsCutIn (M : History) : Type 0 where
    pub p : ℕ
    pub low : 1 ≤ p
    pub high : p ≤ n
    pub i : ℕ
    pub cut : HasCut i (calls_of p M)
    called : (c : Command) × IsCalled M i c
    closed : (q : ℕ) → ¬ IsOpenCall M i q

  module _ (M : History) (h : IsCutIn M) where
    -- it stays so after a mark that leaves it among the calls that were cut off, and doesn't open it again
    stays : (m : HistoryEvent) → HasCut h.i (calls_of h.p (m ∷ M)) → ((q : ℕ) → ¬ IsOpenCall (m ∷ M) h.i q) → IsCutIn (m ∷ M)
    stays m cut closed = record { p = h.p; low = h.low; high = h.high; i = h.i; cut = cut; called = later m M h.i h.called; closed = closed }

    in_all : (b : Bool) (call : SeenCall) → HasCut h.i (if b then call ∷ calls_of h.p M else calls_of h.p M)
    in_all true call = inr h.cut
    in_all false call = h.cut

    -- what ends a call ends another one
    kept : (j : ℕ) (e : Ending) → (q : ℕ) × IsOpenCall M j q → HasCut h.i (ended j e (calls_of h.p M))
    kept j e stands = ended_keeps j e h.i (λ same. h.closed stands.0 (subst (λ (k : ℕ). IsOpenCall M k stands.0) same stands.1)) (calls_of h.p M) h.cut

    after_mark : (m : HistoryEvent) → MayFollow m M → IsCutIn (m ∷ M)
    after_mark (Call j q c) may =
        stays (Call j q c) (in_all (q == h.p) _) (λ x stands. ⊎_elim (λ same. may.0 h.called.0 (subst (λ (k : ℕ). IsCalled M k h.called.0) (sym same.0) h.called.1)) (h.closed x) stands)
    after_mark (Answer j answer) may = stays (Answer j answer) (kept j _ may) (λ q stands. h.closed q stands.1)
    after_mark (Refused j why) may = stays (Refused j why) (kept j _ may) (λ q stands. h.closed q stands.1)
    after_mark (Cut j why) may = stays (Cut j why) (kept j _ may) (λ q stands. h.closed q stands.1)
    after_mark m may = stays m h.cut (λ q stands. stands)

  -- a call that is cut off is its pass's own
  cut_now : (M : History) (i : ℕ) (why : WhyCut) → AreOfPasses n M → (p : ℕ) × IsOpenCall M i p → IsCutIn (Cut i why ∷ M)
  cut_now M i why of stands = grind (arith, nat_tests, own_call, ended_cuts, later)

  -- no call of the history was cut off, or one of its pass's own was
  pub cut_in : (M : History) → IsTold M → AreOfPasses n M → NoneIsCut M ⊎ IsCutIn M
  cut_in [] told of = inl tt
  cut_in (Call j q c ∷ M) told of = ⊎_elim inl (λ h. inr (after_mark M h (Call j q c) told.0)) (cut_in M told.1 of.2)
  cut_in (Cut j why ∷ M) told of = inr (cut_now M j why of told.0)
  cut_in (m ∷ M) told of = ⊎_elim inl (λ h. inr (after_mark M h m told.0)) (cut_in M told.1 of)

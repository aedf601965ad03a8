-- One mark more in the ledger of a history's calls.
use Rattle.std.specs.BTreeMap as tree
use Rattle.std.specs.BTreeSet as set
use Rattle.std.proofs.Common.{◌≡◌, inl, inr, ⊎_elim, ℕ, Bool, true, false, List, ◌∷◌, sym, ◌∙◌, ap, subst, arith, Some, None, ◌==◌, if◌then◌else◌, BTreeMap}
use Rattle.std.proofs.{Common.{BTreeSet, nat_cmp}, lemmas.{Grind.{common_steps}, Option.{same_Some}, Bool.{cases_eq, Decides.{eqb_tells}}}}
use Rattle.lz_slot.specs.declared.{command.Command.{Command}, history.HistoryEvent.{HistoryEvent, TheVariants.{Call}}}
use Rattle.lz_judge.{specs.{Records.{IsMade, MayFollow, actor_of}, Ledgers.{IsLedger}}, proofs.Lives.LawfulHistory.{made_cases, made_more}}
use Rattle.lz_judge.proofs.Lives.CurrentLife.{open_made}

module _ (M : List HistoryEvent) (calls : BTreeSet ℕ) (actors busy : BTreeMap ℕ ℕ) (living : Bool) (before : IsLedger M calls actors busy living) where
  -- a call begins
  module _ (i a : ℕ) (c : Command) (calls' : BTreeSet ℕ) (actors' busy' : BTreeMap ℕ ℕ) (alive : living ≡ true) (fresh : set.contains nat_cmp calls i ≡ false) (idle : tree.get nat_cmp busy a ≡ None)
      (more_calls : set.Updates nat_cmp calls calls' i true) (more_actors : tree.Updates nat_cmp actors actors' i (Some a)) (more_busy : tree.Updates nat_cmp busy busy' a (Some i)) where
    new_call : ¬ IsMade M i
    new_call made = let e : false ≡ true = sym fresh ∙ (before.made i).1 made in cc

    pub may_begin : MayFollow (Call i a c) M
    may_begin = (sym before.lives ∙ alive, new_call, λ j is. let e : None ≡ Some j = sym idle ∙ (before.call a j).1 is in cc)

    pub ledger_begun : IsLedger (Call i a c ∷ M) calls' actors' busy' living
    ledger_begun = record {
      made = λ j. (made_to j, made_from j);
      actor = λ j. let e = before.actor j in grind (arith, common_steps, more_actors.0 j, e);
      call = λ b j. (call_to b j, call_from b j);
      lives = before.lives;
    }
      where
        made_to : (j : ℕ) → set.contains nat_cmp calls' j ≡ true → IsMade (Call i a c ∷ M) j
        made_to j is = ⊎_elim
            (λ same. (c, (a, inl (ap (λ (n : ℕ). Call n a c) same))))
            (λ apart. made_more (Call i a c) M j ((before.made j).0 (let old : set.contains nat_cmp calls j ≡ true = grind (arith, common_steps, more_calls.0 j) in old)))
            (cases_eq i j)

        made_from : (j : ℕ) → IsMade (Call i a c ∷ M) j → set.contains nat_cmp calls' j ≡ true
        made_from j made = ⊎_elim
            (λ same. grind (arith, common_steps, more_calls.0 j))
            (λ there. let old = (before.made j).1 there in grind (arith, common_steps, more_calls.0 j))
            (made_cases i a c M j made)

        call_to : (b j : ℕ) → tree.get nat_cmp busy' b ≡ Some j → (if i == j then Some a else actor_of M j) ≡ Some b
        call_to b j is = ⊎_elim
            (λ same.
            let here : tree.get nat_cmp busy' b ≡ Some i = grind (arith, common_steps, more_busy.0 b) in
            let e = same_Some i j (sym here ∙ is) in
            grind (arith, e, same))
            (λ apart.
            let old : tree.get nat_cmp busy b ≡ Some j = grind (arith, common_steps, more_busy.0 b) in
            let actor = (before.call b j).0 old in
            elim (eqb_tells i j) [
              | inl t ↦ absurd (new_call (subst (IsMade M) (sym t.1) (open_made M j b actor)))
              | inr f ↦ rw f.0 actor
            ])
            (cases_eq a b)

        call_from : (b j : ℕ) → (if i == j then Some a else actor_of M j) ≡ Some b → tree.get nat_cmp busy' b ≡ Some j
        call_from b j is = elim (eqb_tells i j) [
          | inl t ↦
              let e = same_Some a b (rw t.0 at is) in
              let here : tree.get nat_cmp busy' b ≡ Some i = grind (arith, common_steps, more_busy.0 b) in
              here ∙ ap (λ (n : ℕ). Some n) t.1
          | inr f ↦
              let old = (before.call b j).1 (rw f.0 at is) in
              ⊎_elim
              (λ same. absurd (let e : None ≡ Some j = sym idle ∙ ap (tree.get nat_cmp busy) same ∙ old in cc))
              (λ apart. grind (arith, common_steps, more_busy.0 b))
              (cases_eq a b)
        ]

-- A reply of the plain set: what it leaves, and what a history makes of it.
use Rattle.std.proofs.Common.{◌≡◌, ◌⊎◌, inl, inr, ⊎_elim, ℕ, false, true, ◌∷◌, sym, ◌∙◌}
use mathlib.Core.Bool.{false≢true, true≢false}
use Rattle.lz_refinement.{proofs.Vocabulary.{Command, History, Keys, Same, after, Reply, mark_of, has_cut, IsPlain}, specs.{OneCaller.{PlainRow}, Sessions.{cuts_off}}}
use Rattle.lz_slot.{specs.declared.{command.Command.TheVariants.{Add}, history.HistoryEvent.TheVariants.{Call}}, proofs.Sets.{after_same}}
use Rattle.lz_machine.specs.declared.event.Reply.TheVariants.{Yes, No, Full, Worn, OldFile, Halted, Device}

-- the set after a call that wasn't cut off
abbrev pub after_told : Command → Reply → Keys → Keys
after_told c Yes S = after c S
after_told c No S = after c S
after_told c _ S = S

-- a call that wasn't cut off leaves that set
pub row_leaves : (N : ℕ) (c : Command) (told : Reply) (S T : Keys) → cuts_off told ≡ false → PlainRow N c told S T → Same T (after_told c told S)
row_leaves N (Add k) Yes S T whole row = row.2
row_leaves N (Add k) (Full counts) S T whole row = row.2
row_leaves N _ (Full counts) S T whole row = absurd row
row_leaves N _ Worn S T whole row = row
row_leaves N _ OldFile S T whole row = row
row_leaves N c Halted S T whole row = absurd (true≢false whole)
row_leaves N c Device S T whole row = absurd (true≢false whole)
row_leaves N _ _ S T whole row = row.1

-- and so does any set with the same keys
pub row_same : (N : ℕ) (c : Command) (told : Reply) (S T U : Keys) → cuts_off told ≡ false → PlainRow N c told S T → Same U (after_told c told S) → PlainRow N c told S U
row_same N (Add k) Yes S T U whole row same = (row.0, row.1, same)
row_same N (Add k) (Full counts) S T U whole row same = (row.0, row.1, same)
row_same N _ (Full counts) S T U whole row same = absurd row
row_same N _ Worn S T U whole row same = same
row_same N _ OldFile S T U whole row same = same
row_same N c Halted S T U whole row same = absurd (true≢false whole)
row_same N c Device S T U whole row same = absurd (true≢false whole)
row_same N _ _ S T U whole row same = (row.0, same)

-- one that was cut off leaves the set with it or without it
pub row_cut : (N : ℕ) (c : Command) (told : Reply) (S T : Keys) → cuts_off told ≡ true → Same T S ⊎ Same T (after c S) → PlainRow N c told S T
row_cut N (Add k) Halted S T cut left = left
row_cut N _ Halted S T cut left = left
row_cut N _ Device S T cut left = left
row_cut N c _ S T cut left = absurd (false≢true cut)

-- The set to which a history leads is this one, or one with the same keys.
abbrev pub LeadsTo : Keys → History → Keys → Type 0
LeadsTo S0 M S = (T : Keys) → IsPlain S0 M T → Same T S

module _ (S0 : Keys) (n p : ℕ) (c : Command) (M : History) (S : Keys) (past : LeadsTo S0 M S) where
  -- the history with the call and its reply, where it wasn't cut off
  pub leads_on : (told : Reply) (T : Keys) → cuts_off told ≡ false → IsPlain S0 (mark_of n told ∷ Call n p c ∷ M) T → Same T (after_told c told S)
  leads_on Yes T whole (is, clean, (U, plain, gives, same)) = λ k. sym (same k) ∙ after_same c U S (past U plain) k
  leads_on No T whole (is, clean, (U, plain, gives, same)) = λ k. sym (same k) ∙ after_same c U S (past U plain) k
  leads_on (Full counts) T whole (is, clean, plain) = past T plain
  leads_on Worn T whole (is, plain) = past T plain
  leads_on OldFile T whole (is, plain) = past T plain
  leads_on Halted T whole plain = absurd (true≢false whole)
  leads_on Device T whole plain = absurd (true≢false whole)

  -- with the call under way
  pub leads_open : (T : Keys) → IsPlain S0 (Call n p c ∷ M) T → Same T S ⊎ Same T (after c S)
  leads_open T plain = ⊎_elim
      (λ without. inl (past T without))
      (λ (clean, (U, before, same)). inr (λ k. sym (same k) ∙ after_same c U S (past U before) k))
      plain

  pub leads_cut : (told : Reply) (T : Keys) → cuts_off told ≡ true → IsPlain S0 (mark_of n told ∷ Call n p c ∷ M) T → Same T S ⊎ Same T (after c S)
  leads_cut Halted T cut (is, plain) = leads_open T plain
  leads_cut Device T cut (is, plain) = leads_open T plain
  leads_cut _ T cut plain = absurd (false≢true cut)

-- no cut comes with a reply that isn't one
pub no_cut : (n p : ℕ) (c : Command) (told : Reply) (M : History) → cuts_off told ≡ false → has_cut M ≡ false → has_cut (mark_of n told ∷ Call n p c ∷ M) ≡ false
no_cut n p c Halted M whole clean = absurd (true≢false whole)
no_cut n p c Device M whole clean = absurd (true≢false whole)
no_cut n p c _ M whole clean = clean

-- What is said of a row stays as the trace grows.
use Rattle.std.proofs.{Common.{◌≡◌, ⊎_elim, inl, inr, ℕ, ◌<◌, ◌≤◌, ◌∷◌, length, arith}, lemmas.Bool.Decides.{nat_tests}}
use Rattle.lz_list.{specs.{declared.publishing.Publishing.{Publishing}, Traces.{Trace, SettledYes, SettledNo}}, proofs.Traces.Absence.{begins_itself}}
use Rattle.lz_list.proofs.Traces.WalkEnd.{settled_later, removed_later}
use Rattle.lz_machine.specs.{Ledgers.{Row}, Kept.{upto, publishing, IsRowOf}}

pub upto_more : (j : ℕ) (e : Publishing) (P : Trace) → j ≤ length P → upto j (e ∷ P) ≡ upto j P
upto_more j e P le = grind (arith, nat_tests)

pub publishing_more : (j : ℕ) (e : Publishing) (P : Trace) → j < length P → publishing j (e ∷ P) ≡ publishing j P
publishing_more j e P lt = grind (arith, nat_tests)

module _ (e : Publishing) (P : Trace) where
  pub yes_stays : (R : Trace) (k : ℕ) → SettledYes R P k → SettledYes R (e ∷ P) k
  yes_stays R k h = record { begins = inr h.begins; member = h.member; settled = settled_later _ P (e ∷ P) (inr (begins_itself P)) h.settled }

  pub no_stays : (R : Trace) (k : ℕ) → SettledNo R P k → SettledNo R (e ∷ P) k
  no_stays R k h = record { begins = inr h.begins; no_member = h.no_member; settled = ⊎_elim (λ none. inl none) (λ is. inr (removed_later _ P (e ∷ P) (inr (begins_itself P)) is)) h.settled }

  pub row_stays : (n : ℕ) (r : Row) → IsRowOf n P r → IsRowOf n (e ∷ P) r
  row_stays n r h = grind (arith, upto_more, yes_stays, no_stays, publishing_more)

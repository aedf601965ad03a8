-- What follows of a lawful history.
use Rattle.std.proofs.Common.{arith, ◌≡◌, ◌≢◌, ◌⊎◌, inl, inr, ⊎_elim, ℕ, List, [], ◌∷◌, ◌++◌, take, drop, sym, ◌∙◌, ap, subst, Option, Some, None, reverse}
use Rattle.std.proofs.{Common.{if◌then◌else◌, ◌==◌}, lemmas.{Bool.Decides.{nat_tests, eqb_tells}, List.{reverse-append, take-append-drop}}}
use Rattle.lz_slot.specs.declared.{command.Command.{Command}, history.HistoryEvent.{HistoryEvent, TheVariants.{Call}}}
use Rattle.lz_judge.specs.Records.{IsLawful, IsMade}

pub made_more : (m : HistoryEvent) (M : List HistoryEvent) (i : ℕ) → IsMade M i → IsMade (m ∷ M) i
made_more m M i (c, (actor, has)) = (c, (actor, inr has))

pub made_less : (m : HistoryEvent) (M : List HistoryEvent) (i : ℕ) → ((j a : ℕ) (c : Command) → m ≢ Call j a c) → IsMade (m ∷ M) i → IsMade M i
made_less m M i no_call (c, (actor, has)) = ⊎_elim (λ here. absurd (no_call i actor c here)) (λ there. (c, (actor, there))) has

pub made_cases : (j a : ℕ) (c : Command) (M : List HistoryEvent) (i : ℕ) → IsMade (Call j a c ∷ M) i → (j ≡ i) ⊎ IsMade M i
made_cases j a c M i (d, (actor, has)) = ⊎_elim (λ here. let same : j ≡ i = cc in inl same) (λ there. inr (d, (actor, there))) has

-- a call that is open after the end of another was open before it
pub not_ended : (j i actor : ℕ) (before : Option ℕ) → (if j == i then None else before) ≡ Some actor → (j ≢ i) × (before ≡ Some actor)
not_ended j i actor before is = grind (arith, nat_tests, eqb_tells)

-- what was lawful up to a mark
lawful_rest : (N M : List HistoryEvent) → IsLawful (N ++ M) → IsLawful M
lawful_rest [] M lawful = lawful
lawful_rest (m ∷ N) M lawful = lawful_rest N M lawful.1

pub so_far : (marks : List HistoryEvent) (n : ℕ) → reverse marks ≡ reverse (drop n marks) ++ reverse (take n marks)
so_far marks n = ap reverse (sym (take-append-drop n marks)) ∙ reverse-append (take n marks) (drop n marks)

pub lawful_so_far : (marks : List HistoryEvent) (n : ℕ) → IsLawful (reverse marks) → IsLawful (reverse (take n marks))
lawful_so_far marks n lawful = lawful_rest (reverse (drop n marks)) (reverse (take n marks)) (subst IsLawful (so_far marks n) lawful)

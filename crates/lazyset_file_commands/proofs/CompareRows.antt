-- Worked rows of what is told of two files: comparisons that must not be.
use Rattle.std.proofs.Common.{◌≡◌, ⊎_elim, ℕ, ◌+◌, ◌*◌, List, [], ◌∷◌, ◌++◌, codes, get_or, Option, Some, Result, Ok, Err, refl, ap, arith}
use Rattle.lz_judge.specs.{Renewals.{IsVerdictOn}, declared.renewing.RenewFlaw.{RenewFlaw, TheVariants.{NotHeld, Missing, Extra}}}
use Rattle.lazyset_file_commands.specs.{Comparisons.{IsCompared, verdict_status, verdict_text}, Tellings.{Tells}, declared.status.Status.TheVariants.{Done, Damaged}}

-- two empty texts hold no set, so they aren't told as the same
empty_not_same : (before after : Option (List ℕ)) → IsCompared [] [] Done before after → ⊥
empty_not_same before after h = go h.verdict h.of_files h.told
  where
    go : (v : Result (Unit {0}) RenewFlaw) → IsVerdictOn [] [] v → Tells before after (verdict_text v) (verdict_status v) Done → ⊥
    go (Ok same) (S, (N, held), new) told = let size : ◌≡◌ {A = ℕ} 0 (16 + 16 * N) = held.size in absurd (omega (arith, size))
    go (Err flaw) of_files told = ⊎_elim (λ t. let s = t.1 in absurd (cc)) (λ t. let s = t.1 in absurd (cc)) told

-- a flaw isn't told as `same`
flaw_not_same : (old new : List ℕ) → IsCompared old new Damaged (Some []) (Some (codes "same" ++ 10 ∷ [])) → ⊥
flaw_not_same old new h = go h.verdict h.told
  where
    first : (text : List ℕ) → get_or text 0 0 ≡ 102 → codes "same" ++ 10 ∷ [] ≡ text → ⊥
    first text f same = let s : ◌≡◌ {A = ℕ} 115 (get_or text 0 0) = ap (λ (l : List ℕ). get_or l 0 0) same in absurd (omega (arith, f, s))

    go : (v : Result (Unit {0}) RenewFlaw) → Tells (Some []) (Some (codes "same" ++ 10 ∷ [])) (verdict_text v) (verdict_status v) Damaged → ⊥
    go (Ok same) told = ⊎_elim (λ t. let s = t.1 in absurd (cc)) (λ t. let s = t.1 in absurd (cc)) told
    go (Err NotHeld) told = ⊎_elim (λ t. first (verdict_text (Err NotHeld)) refl t.0) (λ t. let s = t.1 in absurd (cc)) told
    go (Err (Missing i)) told = ⊎_elim (λ t. first (verdict_text (Err (Missing i))) refl t.0) (λ t. let s = t.1 in absurd (cc)) told
    go (Err (Extra j)) told = ⊎_elim (λ t. first (verdict_text (Err (Extra j))) refl t.0) (λ t. let s = t.1 in absurd (cc)) told

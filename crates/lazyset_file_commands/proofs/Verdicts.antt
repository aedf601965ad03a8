-- What a comparison of two files came to, by its verdict.
use Rattle.std.{proofs.{Common.{◌≡◌, ◌⊎◌, ◌↔◌, List, ℕ, Result, arith}, lemmas.Bool.Decides.{nat_tests}}, specs.Prelude.{IsOk, IfErr}}
use Rattle.lz_judge.specs.{Renewals.{HoldOneSet, IsRenewFlaw, IsVerdictOn}, declared.renewing.RenewFlaw.{RenewFlaw}}
use Rattle.lazyset_file_commands.specs.{Comparisons.{verdict_status}, declared.status.Status.{Status, TheVariants.{Done, Failed, Refused, Damaged}}}

module _ (old new : List ℕ) where
  pub verdict_true : (verdict : Result (Unit {0}) RenewFlaw) → (IsOk verdict ↔ HoldOneSet old new) → IfErr verdict (IsRenewFlaw old new) → IsVerdictOn old new verdict
  verdict_true verdict one flaw = grind (arith, nat_tests)

  -- a comparison that is done
  pub done_holds : (verdict : Result (Unit {0}) RenewFlaw) (status : Status) → (IsOk verdict ↔ HoldOneSet old new) → (status ≡ Failed) ⊎ (status ≡ verdict_status verdict) → status ≡ Done → HoldOneSet old new
  done_holds verdict status one ends is = grind (arith, nat_tests)

  -- one that found a flaw
  pub apart_holds : (verdict : Result (Unit {0}) RenewFlaw) (status : Status) → (IsOk verdict ↔ HoldOneSet old new) → (status ≡ Failed) ⊎ (status ≡ verdict_status verdict) → (status ≡ Refused) ⊎ (status ≡ Damaged) → ¬ HoldOneSet old new
  apart_holds verdict status one ends is = grind (arith, nat_tests)

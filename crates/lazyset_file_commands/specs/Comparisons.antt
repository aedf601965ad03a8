-- What a check of a file against another tells.
use Rattle.std.specs.Prelude.{◌≢◌, ◌⊎◌, ℕ, Option, List, [], ◌∷◌, ◌++◌, codes, decimal, Result, Ok, Err}
use Rattle.lz_judge.specs.{Renewals.{IsVerdictOn}, Surveys.{OfText}, declared.renewing.RenewFlaw.{RenewFlaw, TheVariants.{NotHeld, Missing, Extra}}}
use Rattle.lazyset_file_commands.specs.{Checks.{IsShown, LacksSurvey}, Judgements.{numbers_text}, Tellings.{Tells}, declared.shown.Shown.TheVariants.{Findings}}
use Rattle.lazyset_file_commands.specs.declared.status.Status.{Status, TheVariants.{Done, Damaged}}

-- the line of a flaw that names no slot
abbrev pub alone_text : ℕ → List ℕ
alone_text number = codes "flaw " ++ decimal number ++ 10 ∷ []

-- the line of a verdict: each flaw has its number, and its slot if it names one
abbrev pub verdict_text : Result (Unit {0}) RenewFlaw → List ℕ
verdict_text (Ok same) = codes "same" ++ 10 ∷ []
verdict_text (Err NotHeld) = alone_text 8
verdict_text (Err (Missing i)) = numbers_text 9 i
verdict_text (Err (Extra j)) = numbers_text 10 j

-- how a check ends with this verdict
abbrev pub verdict_status : Result (Unit {0}) RenewFlaw → Status
verdict_status (Ok same) = Done
verdict_status (Err flaw) = Damaged

-- a comparison of two files ended with this status, and told its verdict
pub record IsCompared (old new : List ℕ) (status : Status) (before after : Option (List ℕ)) : Type 0 where
  pub verdict : Result (Unit {0}) RenewFlaw
  pub of_files : IsVerdictOn old new verdict
  pub told : Tells before after (verdict_text verdict) (verdict_status verdict) status

-- The file was compared with the older one, or that couldn't be surveyed.
abbrev pub ComparesTo : Option (List ℕ) → List ℕ → Status → Option (List ℕ) → Option (List ℕ) → Type 0
ComparesTo older new status before after = OfText (λ old. IsCompared old new status before after) older ⊎ LacksSurvey before after status

-- The file was checked, and after `good`, and only there, compared with the older one.
abbrev pub IsCheckedOf : Option (List ℕ) → List ℕ → Status → Option (List ℕ) → Option (List ℕ) → Type 0
IsCheckedOf older new status before after =
    ((status ≢ Done) × IsShown Findings new status before after)
    ⊎ ((middle : Option (List ℕ)) × IsShown Findings new Done before middle × ComparesTo older new status middle after)

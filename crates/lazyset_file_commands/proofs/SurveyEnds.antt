-- How a command ends that tells a survey.
use Rattle.std.proofs.{Common.{◌≡◌, ◌⊎◌, ℕ, List, [], Option, Some, None, refl, sym, ◌∙◌, arith}, lemmas.Bool.Decides.{nat_tests}}
use Rattle.lz_judge.specs.{Surveys.{HoldsASet, IsSurveyed, OfText}, declared.{finding.Survey.{Survey}, surveying.SurveyFault.{SurveyFault}}}
use Rattle.lazyset_file_commands.specs.{Checks.{LacksSurvey, no_survey_text, survey_status}, Tellings.{LacksMemory, Tells}, declared.status.Status.{Status}}
use Rattle.lazyset_file_commands.specs.declared.status.Status.TheVariants.{Done, Failed, Refused, Damaged}

module _ (t : List ℕ) (survey : Survey) (surveyed : IsSurveyed t survey) (status : Status) (ends : (status ≡ Failed) ⊎ (status ≡ survey_status survey)) where
  pub done_holds_set : status ≡ Done → HoldsASet t
  done_holds_set is = grind (arith, nat_tests)

  pub damaged_holds_none : (status ≡ Refused) ⊎ (status ≡ Damaged) → ¬ HoldsASet t
  damaged_holds_none is = grind (arith, nat_tests)

-- what was told with Done was told with memory
pub told_done : (P : Status → Type 0) (status : Status) (before after : Option (List ℕ)) → status ≡ Done → P status ⊎ LacksMemory before after status → P Done
told_done P status before after is ends = grind (arith, nat_tests)

-- the end of a command that told why there is no survey
pub lacks_survey : (fault : SurveyFault) (status : Status) (before after : Option (List ℕ)) → Tells before after (no_survey_text fault) Failed status → LacksSurvey before after status
lacks_survey fault status before after told = grind (arith, nat_tests)

-- what holds of each text holds of what a reader has left
pub of_any : (P : List ℕ → Type 0) (input : Option (List ℕ)) → ((t : List ℕ) → P t) → OfText P input
of_any P None holds = ([], tt, holds [])
of_any P (Some bytes) holds = (bytes, refl, holds bytes)

-- one that failed ended in no other way
pub failed_not_done : (status : Status) → status ≡ Failed → status ≡ Done → ⊥
failed_not_done status failed is = let never : Failed ≡ Done = sym failed ∙ is in cc

pub failed_not_told : (status : Status) → status ≡ Failed → (status ≡ Refused) ⊎ (status ≡ Damaged) → ⊥
failed_not_told status failed told = grind (arith, nat_tests)

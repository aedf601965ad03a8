-- What is told of a file that was surveyed.
use Rattle.lz_judge.specs.declared.finding.Survey.TheVariants as survey
use Rattle.std.specs.{Prelude.{◌⊎◌, ℕ, Bool, true, Option, List, [], ◌∷◌, ◌++◌, codes, decimal, if◌then◌else◌}, List.{flat_map}}
use Rattle.lz_slot.specs.{Bytes.{header_fault_number}, Texts.{key_text}, declared.header.Header.{Header}}
use Rattle.lz_judge.specs.{Surveys.{IsSurveyOf, is_good}, declared.finding.{Finding.{Finding, TheVariants.{Key, BadKey, Twice}}, Survey.{Survey}}}
use Rattle.lz_judge.specs.declared.surveying.SurveyFault.{SurveyFault, TheVariants.{Read, Memory}}
use Rattle.lazyset_file_commands.specs.{Counts.{counts_text}, Makings.{refused_text}, Tellings.{LacksInput, LacksMemory, Tells, memory_text, unread_text}}
use Rattle.lazyset_file_commands.specs.declared.{shown.Shown.{Shown, TheVariants.{Findings, Keys, Counts}}, status.Status.{Status}}
use Rattle.lazyset_file_commands.specs.declared.status.Status.TheVariants.{Done, Refused, Damaged}

-- the line of a finding
abbrev pub finding_text : Finding → List ℕ
finding_text (Key i k) = codes "slot " ++ decimal i ++ codes " key " ++ key_text k ++ 10 ∷ []
finding_text (BadKey i) = codes "slot " ++ decimal i ++ codes " badkey" ++ 10 ∷ []
finding_text (Twice i first) = codes "slot " ++ decimal i ++ codes " twice " ++ decimal first ++ 10 ∷ []

-- the line of a finding where findings are shown, or the keys alone
abbrev pub line_of : Shown → Finding → List ℕ
line_of Findings finding = finding_text finding
line_of Keys (Key i k) = key_text k ++ 10 ∷ []
line_of shown finding = []

-- what is shown of the findings in a file with this head
abbrev pub found_text : Shown → Header → List Finding → List ℕ
found_text Counts header findings = counts_text header.format header.slots findings
found_text shown header findings = flat_map (line_of shown) findings

-- what is shown of them before their lines
abbrev pub head_text : Shown → Header → List Finding → List ℕ
head_text Counts header findings = counts_text header.format header.slots findings
head_text shown header findings = []

-- whether the file is damaged, which goes without saying after keys that are all
abbrev pub end_text : Shown → Bool → List ℕ
end_text Keys true = []
end_text shown good = if good then codes "good" ++ 10 ∷ [] else codes "damaged" ++ 10 ∷ []

-- what is shown of a survey
abbrev pub shown_text : Shown → Survey → List ℕ
shown_text shown (survey.Refused fault) = refused_text (header_fault_number fault)
shown_text shown (survey.Found header findings) = found_text shown header findings.items ++ end_text shown (is_good (survey.Found header findings))

-- how the command ends
abbrev pub found_status : Bool → Status
found_status good = if good then Done else Damaged

abbrev pub survey_status : Survey → Status
survey_status (survey.Refused fault) = Refused
survey_status (survey.Found header findings) = found_status (is_good (survey.Found header findings))

-- the command ended with this status, and showed this of a survey of the file
pub record IsShown (shown : Shown) (t : List ℕ) (status : Status) (before after : Option (List ℕ)) : Type 0 where
  pub survey : Survey
  pub of_file : IsSurveyOf t survey
  pub told : Tells before after (shown_text shown survey) (survey_status survey) status

-- why there is no survey, as it is told
abbrev pub no_survey_text : SurveyFault → List ℕ
no_survey_text Read = unread_text
no_survey_text Memory = memory_text

-- a read failed, or there was no memory, which was told
abbrev pub LacksSurvey : Option (List ℕ) → Option (List ℕ) → Status → Type 0
LacksSurvey before after status = LacksInput before after status ⊎ LacksMemory before after status

-- How many slots of a file a crash has torn.
use Rattle.lz_slot.specs.declared.slot.SlotRead.TheVariants as read
use Rattle.lz_judge.specs.declared.finding.Survey.TheVariants as survey
use Rattle.std.specs.Prelude.{◌≡◌, ℕ, zero, suc, ◌+◌, ◌-◌, ◌≤◌, Bool, true, false, List, length, take, Ok, if◌then◌else◌}
use Rattle.lz_slot.specs.{Bytes.{header_read, slot_at}, declared.slot.SlotRead.{SlotRead}}
use Rattle.lz_judge.specs.{Surveys.{IsSurveyOf}, declared.finding.Survey.{Survey}}

-- the slot was being written at a crash
abbrev pub is_torn : SlotRead → Bool
is_torn read.Torn = true
is_torn _ = false

-- how many of the slots below n are torn, where slot i says `says i`
abbrev pub torn_below : (ℕ → SlotRead) → ℕ → ℕ
torn_below says zero = 0
torn_below says (suc n) = torn_below says n + (if is_torn (says n) then 1 else 0)

-- So many slots of the file are torn, where its head is that of a set.
abbrev pub HasTorn : List ℕ → ℕ → Type 0
HasTorn t count = (N : ℕ) → header_read t (length t) ≡ Ok N → count ≡ torn_below (slot_at t) N

-- The text begins with this head, and so many of the first slots behind it are torn.
pub record CountsTorn (head : List ℕ) (slots count : ℕ) (t : List ℕ) : Type 0 where
  pub begins : take 16 t ≡ head
  pub torn : count ≡ torn_below (slot_at t) slots

-- a survey tells at least so many free slots, if it tells them
abbrev pub HasFree : Survey → ℕ → Type 0
HasFree (survey.Refused fault) count = Unit {0}
HasFree (survey.Found header findings) count = count ≤ header.slots - length findings.items

-- The torn slots of a file are among those that its survey tells as free.
abbrev pub TornAreFree : Type 0
TornAreFree = (t : List ℕ) (survey : Survey) → IsSurveyOf t survey → (count : ℕ) → HasTorn t count → HasFree survey count

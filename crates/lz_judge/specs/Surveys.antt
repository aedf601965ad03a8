-- What a survey says of a file. Slot i says `says i`.
use Rattle.lz_slot.specs.declared.slot.SlotRead.TheVariants as read
use Rattle.std.specs.Prelude.{◌≡◌, ◌≢◌, ◌↔◌, ℕ, zero, suc, ◌<◌, ◌==◌, List, [], ◌∷◌, ◌++◌, map, length, All, IfSome, IsTrue, Ok, Err, None, Option, Some, Bool}
use Rattle.std.specs.{Prelude.{true, false}, List.{list_all, list_any}}
use Rattle.lz_slot.specs.{Bytes.{Holds, format_of, header_read, slot_at}, Sets.{Keys}, declared.slot.SlotRead.{SlotRead}}
use Rattle.lz_judge.specs.declared.finding.{Finding.{Finding, TheVariants.{Key, BadKey, Twice}}, Survey.{Survey, TheVariants.{Refused, Found}}}

-- slot i holds the key k, and no slot below it does
pub record IsFirst (says : ℕ → SlotRead) (i k : ℕ) : Type 0 where
  pub holds : says i ≡ read.Member k
  pub lowest : (j : ℕ) → j < i → says j ≢ read.Member k

-- the finding is true
abbrev pub IsFinding : (ℕ → SlotRead) → Finding → Type 0
IsFinding says (Key i k) = IsFirst says i k
IsFinding says (BadKey i) = says i ≡ read.BadKey
IsFinding says (Twice i first) = (first < i) × ((k : ℕ) × (says i ≡ read.Member k) × IsFirst says first k)

-- the slot at which it was found
abbrev pub slot_of : Finding → ℕ
slot_of (Key i k) = i
slot_of (BadKey i) = i
slot_of (Twice i first) = i

-- a slot's index, where the slot is open
abbrev pub open_slot : SlotRead → ℕ → List ℕ
open_slot (read.Member k) i = i ∷ []
open_slot read.BadKey i = i ∷ []
open_slot _ i = []

-- the open slots below n, the lowest first
abbrev pub open_slots : (ℕ → SlotRead) → ℕ → List ℕ
open_slots says zero = []
open_slots says (suc n) = open_slots says n ++ open_slot (says n) n

-- the findings are those of the slots below n: each is true, and there is one for each open slot, upwards
pub record AreFindings (says : ℕ → SlotRead) (n : ℕ) (findings : List Finding) : Type 0 where
  pub each : All (IsFinding says) findings
  pub slots : map slot_of findings ≡ open_slots says n

-- what a survey says is so of the file
abbrev pub IsSurveyOf : List ℕ → Survey → Type 0
IsSurveyOf t (Refused fault) = header_read t (length t) ≡ Err fault
IsSurveyOf t (Found header findings) =
    (header_read t (length t) ≡ Ok header.slots) × (header.format ≡ format_of t) × AreFindings (slot_at t) header.slots findings.items

-- the finding is no damage
abbrev pub is_sound : Finding → Bool
is_sound (Key i k) = true
is_sound (BadKey i) = false
is_sound (Twice i first) = false

-- the survey found no fault of the head and no damage
abbrev pub is_good : Survey → Bool
is_good (Refused fault) = false
is_good (Found header findings) = list_all is_sound findings.items

-- the file holds some set
abbrev pub HoldsASet : List ℕ → Type 0
HoldsASet t = (N : ℕ) × (S : Keys) × Holds t N S

-- the survey is one of the file, and good exactly where the file holds a set
pub record IsSurveyed (t : List ℕ) (survey : Survey) : Type 0 where
  pub told : IsSurveyOf t survey
  pub good : IsTrue (is_good survey) ↔ HoldsASet t

-- this holds of the text that a reader has left, where it tells which that is
abbrev pub OfText : (List ℕ → Type 0) → Option (List ℕ) → Type 0
OfText P input = (t : List ℕ) × IfSome input (λ bytes. t ≡ bytes) × P t

-- the finding tells that a slot holds k
abbrev pub is_key : ℕ → Finding → Bool
is_key k (Key i q) = q == k
is_key k (BadKey i) = false
is_key k (Twice i first) = false

-- the key that it tells
abbrev pub finding_key : Finding → Option ℕ
finding_key (Key i k) = Some k
finding_key (BadKey i) = None
finding_key (Twice i first) = None

-- the keys that were found
abbrev pub found_keys : List Finding → Keys
found_keys found k = list_any (is_key k) found

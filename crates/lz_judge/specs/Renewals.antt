-- What is told of two files, the second of which is to hold the set of the first.
use Rattle.std.specs.Prelude.{◌≡◌, ℕ, ◌<◌, List, length, take, slice_index_or, All, IsTrue, false, Result, Ok, Err}
use Rattle.lz_slot.specs.{Bytes.{Holds, slot_at}, Sets.{Keys}, declared.slot.SlotRead.TheVariants.{Member}}
use Rattle.lz_judge.specs.{Surveys.{AreFindings, HoldsASet, found_keys}, declared.finding.Finding.{Finding, TheVariants.{Key, BadKey, Twice}}}
use Rattle.lz_judge.specs.declared.renewing.RenewFlaw.{RenewFlaw, TheVariants.{NotHeld, Missing, Extra}}

-- both files hold one set
abbrev pub HoldOneSet : List ℕ → List ℕ → Type 0
HoldOneSet old new = (S : Keys) × ((N : ℕ) × Holds old N S) × ((M : ℕ) × Holds new M S)

-- slot i is the lowest of a file's N slots that holds a key outside the set T
pub record IsLowestOutside (t : List ℕ) (N : ℕ) (T : Keys) (i : ℕ) : Type 0 where
  pub below : i < N
  pub outside : (k : ℕ) × (slot_at t i ≡ Member k) × (T k ≡ false)
  pub lowest : (j k : ℕ) → j < i → slot_at t j ≡ Member k → IsTrue (T k)

-- the flaw is true, and no flaw that is looked for before it is
abbrev pub IsRenewFlaw : List ℕ → List ℕ → RenewFlaw → Type 0
IsRenewFlaw old new NotHeld = HoldsASet old → HoldsASet new → ⊥
IsRenewFlaw old new (Missing i) = (N : ℕ) × (M : ℕ) × (S : Keys) × (T : Keys) × Holds old N S × Holds new M T × IsLowestOutside old N T i
IsRenewFlaw old new (Extra j) = (N : ℕ) × (M : ℕ) × (S : Keys) × (T : Keys) × Holds old N S × Holds new M T × ((k : ℕ) → IsTrue (S k) → IsTrue (T k)) × IsLowestOutside new M S j

-- the verdict on two files is true
abbrev pub IsVerdictOn : List ℕ → List ℕ → Result (Unit {0}) RenewFlaw → Type 0
IsVerdictOn old new (Ok same) = HoldOneSet old new
IsVerdictOn old new (Err flaw) = IsRenewFlaw old new flaw

-- On two files one verdict alone is true.
abbrev pub OneVerdict : Type 0
OneVerdict = (old new : List ℕ) (one other : Result (Unit {0}) RenewFlaw) → IsVerdictOn old new one → IsVerdictOn old new other → one ≡ other

-- the number by which a program tells a flaw
abbrev pub renew_flaw_number : RenewFlaw → ℕ
renew_flaw_number NotHeld = 8
renew_flaw_number (Missing i) = 9
renew_flaw_number (Extra j) = 10

-- the findings of a file that holds a set: they are those of its slots, and their keys are the set
pub record AreHeld (t : List ℕ) (found : List Finding) : Type 0 where
  pub slots : ℕ
  pub findings : AreFindings (slot_at t) slots found
  pub held : Holds t slots (found_keys found)

-- what was found is no key outside the set
abbrev pub IsWithin : Keys → Finding → Type 0
IsWithin S (Key i k) = IsTrue (S k)
IsWithin S (BadKey i) = Unit {0}
IsWithin S (Twice i first) = Unit {0}

-- the slot of the first finding that is a key outside the set
pub record IsFirstOutside (S : Keys) (found : List Finding) (slot : ℕ) : Type 0 where
  pub place : ℕ
  pub key : ℕ
  pub there : (place < length found) × (slice_index_or found place (Key slot key) ≡ Key slot key)
  pub outside : S key ≡ false
  pub before : All (IsWithin S) (take place found)

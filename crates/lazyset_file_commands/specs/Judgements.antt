-- What a judgement of a history tells.
use Rattle.std.specs.Prelude.{◌⊎◌, ℕ, Option, List, [], ◌∷◌, ◌++◌, codes, decimal}
use Rattle.lz_slot.specs.{Sets.{Keys, members}, Histories.{AreChain, lives}}
use Rattle.lz_judge.specs.{Records.{IsPoint, Record}, TextsRead.{IsFirstUnread, Reads}, Flaws.{IsFirstKind, IsFlaw, OrderedChain, flaw_number, flaw_subject}}
use Rattle.lz_judge.specs.declared.flaw.Flaw.{Flaw}
use Rattle.lazyset_file_commands.specs.{Tellings.{Tells, line_text}, declared.status.Status.{Status, TheVariants.{Done, Refused, Damaged}}}

-- the line of a history without a flaw
abbrev pub good_text : List ℕ
good_text = codes "good" ++ 10 ∷ []

-- the line of a flaw with these numbers
abbrev pub numbers_text : ℕ → ℕ → List ℕ
numbers_text number subject = codes "flaw " ++ decimal number ++ codes " " ++ decimal subject ++ 10 ∷ []

-- a flaw with the call's number, or the open's
abbrev pub flaw_text : Flaw → List ℕ
flaw_text flaw = numbers_text (flaw_number flaw) (flaw_subject flaw)

-- the listed order makes the history a chain of lives that begins with the empty set
abbrev pub IsOrdered : Record → Type 0
IsOrdered history = (T : Keys) × OrderedChain (IsPoint history.points) (lives (members []) history.marks) T

-- The history has no flaw, which was told with this status.
pub record FoundGood (history : Record) (status : Status) (before after : Option (List ℕ)) : Type 0 where
  pub ordered : IsOrdered history
  pub flawless : (flaw : Flaw) → ¬ IsFlaw history flaw
  pub chain : AreChain (members []) history.marks
  pub told : Tells before after good_text Done status

-- The history has this flaw and none of an earlier kind, and the flaw was told.
pub record FoundWrong (history : Record) (status : Status) (before after : Option (List ℕ)) : Type 0 where
  pub flaw : Flaw
  pub wrong : IsFlaw history flaw
  pub first : IsFirstKind history flaw
  pub told : Tells before after (flaw_text flaw) Damaged status

-- the text is that of a history without a flaw
abbrev pub JudgedGood : List ℕ → Status → Option (List ℕ) → Option (List ℕ) → Type 0
JudgedGood text status before after = (lines : ℕ) × (history : Record) × Reads lines text history × FoundGood history status before after

-- the text is that of a history with a flaw
abbrev pub JudgedWrong : List ℕ → Status → Option (List ℕ) → Option (List ℕ) → Type 0
JudgedWrong text status before after = (lines : ℕ) × (history : Record) × Reads lines text history × FoundWrong history status before after

-- the text is no history, and its first line that doesn't read was told
abbrev pub JudgedUnread : List ℕ → Status → Option (List ℕ) → Option (List ℕ) → Type 0
JudgedUnread text status before after = (line : ℕ) × IsFirstUnread text line × Tells before after (line_text line) Refused status

-- a judgement of the text ended with this status, and told what the text deserves
abbrev pub IsJudged : List ℕ → Status → Option (List ℕ) → Option (List ℕ) → Type 0
IsJudged text status before after = JudgedGood text status before after ⊎ JudgedWrong text status before after ⊎ JudgedUnread text status before after

-- What reading the text of a history comes to. A line ends with a line feed.
use Rattle.std.specs.Prelude.{◌≡◌, ◌≢◌, ◌⊎◌, ℕ, ◌+◌, ◌≤◌, ◌==◌, false, List, [], ◌∷◌, ◌++◌, All, length, Some}
use Rattle.lz_slot.specs.declared.history.HistoryEvent.{HistoryEvent, TheVariants.{Call, Answer, Refused, Cut, Stop, Crash, Opened, OpenFailed}}
use Rattle.lz_judge.specs.{Limits.{most_calls, most_bytes}, declared.line.Line.{Line, TheVariants.{Seen, Placed, Other}}, Records.{MayFollow, Record}}
use Rattle.lz_judge.specs.LinesRead.{line_read}

-- how many calls a mark makes
abbrev pub calls_in : HistoryEvent → ℕ
calls_in (Call i actor c) = 1
calls_in (Answer i answer) = 0
calls_in (Refused i why) = 0
calls_in (Cut i why) = 0
calls_in Stop = 0
calls_in Crash = 0
calls_in (Opened keys) = 0
calls_in (OpenFailed why) = 0

-- how many calls were made
abbrev pub calls_of : List HistoryEvent → ℕ
calls_of [] = 0
calls_of (m ∷ M) = calls_in m + calls_of M

-- the mark may come next, and isn't one call too many
abbrev pub MaySee : HistoryEvent → List HistoryEvent → Type 0
MaySee m M = MayFollow m M × (calls_of (m ∷ M) ≤ most_calls)

-- a line that says this may come next
abbrev pub MayCome : Line → Record → Type 0
MayCome (Seen m) h = MaySee m h.marks
MayCome (Placed point) h = Unit {0}
MayCome Other h = Unit {0}

-- the history with what one more line says
abbrev pub with_line : Line → Record → Record
with_line (Seen m) h = record { marks = m ∷ h.marks; points = h.points }
with_line (Placed point) h = record { marks = h.marks; points = point ∷ h.points }
with_line Other h = h

-- the bytes have no line feed among them
abbrev pub IsClear : List ℕ → Type 0
IsClear t = All (λ b. b == 10 ≡ false) t

-- a line of these bytes says this, may come after the history h, and ends within the most bytes
abbrev pub IsNext : ℕ → Record → List ℕ → Line → Type 0
IsNext bytes h t l = (line_read t ≡ Some l) × MayCome l h × (bytes + length t + 1 ≤ most_bytes)

-- the text is lines that read, each in its turn, and they are the history h; n is the number of the line after them
pub data Reads : ℕ → List ℕ → Record → Type 0 where
  nothing : Reads 1 [] (record { marks = []; points = [] })
  line : (n : ℕ) (text : List ℕ) (h : Record) (t : List ℕ) (l : Line)
      → Reads n text h → IsClear t → IsNext (length text) h t l
      → Reads (n + 1) (text ++ (t ++ 10 ∷ [])) (with_line l h)

-- a front of the text reads, and the rest is left
pub record HasRead (n : ℕ) (text rest : List ℕ) (h : Record) : Type 0 where
  pub front : List ℕ
  pub whole : text ≡ front ++ rest
  pub reads : Reads n front h

-- After so many bytes, and the history h, the rest has no line that ends, or its first line doesn't read.
abbrev pub IsUnread : ℕ → Record → List ℕ → Type 0
IsUnread bytes h rest =
    ((rest ≢ []) × IsClear rest)
    ⊎ ((t : List ℕ) × (more : List ℕ) × (rest ≡ t ++ 10 ∷ more) × IsClear t × ((l : Line) → ¬ IsNext bytes h t l))

-- line n of the text is the first one that doesn't read
pub record IsFirstUnread (text : List ℕ) (n : ℕ) : Type 0 where
  pub history : Record
  pub rest : List ℕ
  pub read : HasRead n text rest history
  pub unread : IsUnread (length read.front) history rest

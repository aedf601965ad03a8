-- What is written of a service's run is a history.
use Rattle.std.specs.Prelude.{◌≡◌, ℕ, suc, ◌+◌, ◌≤◌, List, [], ◌∷◌, length, reverse, Some}
use Rattle.lz_slot.specs.{Limits.{largest_key, most_actors}, Sets.{key_of}, Numerals.{largest_read}, MarkTexts.{mark_text, marks_text}}
use Rattle.lz_slot.specs.declared.history.HistoryEvent.{HistoryEvent, TheVariants.{Call, Answer, Refused, Cut, Stop, Crash, Opened, OpenFailed}}
use Rattle.lz_judge.specs.{declared.line.Line.TheVariants.{Seen}, LinesRead.{line_read}, Records.{IsLawful}, Limits.{most_bytes, most_calls, most_faults}}
use Rattle.lz_judge.specs.TextsRead.{Reads, calls_of}

-- the line says this mark
abbrev pub ReadsMark : List ℕ → HistoryEvent → Type 0
ReadsMark line m = line_read line ≡ Some (Seen m)

-- the keys ascend, from the least one on
abbrev pub AscendFrom : ℕ → List ℕ → Type 0
AscendFrom least [] = Unit {0}
AscendFrom least (k ∷ ks) = (least ≤ k) × (k ≤ largest_key) × AscendFrom (k + 1) ks

abbrev pub IsCallNumber : ℕ → Type 0
IsCallNumber i = (1 ≤ i) × (i ≤ largest_read)

-- the numbers of a mark are those that a run may have
abbrev pub IsMarkOfRun : HistoryEvent → Type 0
IsMarkOfRun (Call i a c) = IsCallNumber i × (1 ≤ a) × (a ≤ most_actors) × (key_of c ≤ largest_key)
IsMarkOfRun (Answer i answer) = IsCallNumber i
IsMarkOfRun (Refused i why) = IsCallNumber i
IsMarkOfRun (Cut i why) = IsCallNumber i
IsMarkOfRun Stop = Unit {0}
IsMarkOfRun Crash = Unit {0}
IsMarkOfRun (Opened keys) = AscendFrom 0 keys
IsMarkOfRun (OpenFailed why) = (1 ≤ why) × (why ≤ most_faults)

-- the line that is written of a mark says the mark
abbrev pub MarksReadBack : Type 0
MarksReadBack = (m : HistoryEvent) → IsMarkOfRun m → ReadsMark (mark_text m) m

abbrev pub AreMarksOfRun : List HistoryEvent → Type 0
AreMarksOfRun [] = Unit {0}
AreMarksOfRun (m ∷ M) = IsMarkOfRun m × AreMarksOfRun M

-- The lines that are written of a lawful run within the limits are read as its history. The newest mark of M stands first.
abbrev pub HistoriesReadBack : Type 0
HistoriesReadBack =
    (M : List HistoryEvent) → AreMarksOfRun M → IsLawful M → calls_of M ≤ most_calls → length (marks_text (reverse M)) ≤ most_bytes
    → Reads (suc (length M)) (marks_text (reverse M)) (record { marks = M; points = [] })

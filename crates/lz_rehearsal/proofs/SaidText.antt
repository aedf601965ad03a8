-- A text of lines that say marks, and of silent ones among them, is read as the history of the marks.
use Rattle.lz_judge.specs.TextsRead as read
use Rattle.std.proofs.Common.{◌≡◌, ℕ, ◌+◌, ◌≤◌, List, [], ◌∷◌, ◌++◌, reverse, length, length-append, arith, sym, subst, append_assoc}
use Rattle.std.proofs.lemmas.List.{append-nil, reverse-append}
use Rattle.lz_slot.specs.{MarkTexts.{mark_text, marks_text}, declared.history.HistoryEvent.{HistoryEvent}}
use Rattle.lz_judge.specs.{declared.line.Line.TheVariants.{Seen, Other}, Limits.{most_bytes, most_calls}, MarkLines.{AreMarksOfRun, IsMarkOfRun}}
use Rattle.lz_judge.{specs.{Records.{IsLawful}, TextsRead.{Reads, calls_of}}, proofs.Texts.{LineWord.{IsWritten}, MarkLine.{mark_written, written_more}}}
use Rattle.lz_rehearsal.specs.Tellings.{mark_line}

-- the lines of the text say these marks, in their order
pub data Says : List HistoryEvent → List ℕ → Type 0 where
  nothing : Says [] []
  mark : (marks : List HistoryEvent) (text : List ℕ) (m : HistoryEvent) → Says marks text → IsMarkOfRun m → Says (marks ++ m ∷ []) (text ++ mark_line m)
  silence : (marks : List HistoryEvent) (text t : List ℕ) → Says marks text → IsWritten t Other → Says marks (text ++ (t ++ 10 ∷ []))

-- one text after another
pub says_join : (ms ns : List HistoryEvent) (t u : List ℕ) → Says ms t → Says ns u → Says (ms ++ ns) (t ++ u)
says_join ms _ t _ one nothing = subst (λ (x : List HistoryEvent). Says x (t ++ [])) (sym (append-nil ms)) (subst (Says ms) (sym (append-nil t)) one)
says_join ms _ t _ one (mark marks text m other of_run) =
    subst (λ (x : List HistoryEvent). Says x (t ++ (text ++ mark_line m))) (append_assoc ms marks (m ∷ []))
    (subst (Says (ms ++ marks ++ m ∷ [])) (append_assoc t text (mark_line m)) (mark (ms ++ marks) (t ++ text) m (says_join ms marks t text one other) of_run))
says_join ms _ t _ one (silence marks text line other silent) =
    subst (Says (ms ++ marks)) (append_assoc t text (line ++ 10 ∷ [])) (silence (ms ++ marks) (t ++ text) line (says_join ms marks t text one other) silent)

pub says_one : (m : HistoryEvent) → IsMarkOfRun m → Says (m ∷ []) (mark_line m)
says_one m of_run = mark [] [] m nothing of_run

pub says_silence : (t : List ℕ) → IsWritten t Other → Says [] (t ++ 10 ∷ [])
says_silence t silent = silence [] [] t nothing silent

pub says_marks : (marks : List HistoryEvent) → AreMarksOfRun marks → Says marks (marks_text marks)
says_marks [] are = nothing
says_marks (m ∷ marks) (of_run, are) =
    subst (Says (m ∷ marks)) (append_assoc (mark_text m) (10 ∷ []) (marks_text marks)) (says_join (m ∷ []) marks (mark_line m) (marks_text marks) (says_one m of_run) (says_marks marks are))

pub said_reads : (marks : List HistoryEvent) (text : List ℕ) → Says marks text → IsLawful (reverse marks) → calls_of (reverse marks) ≤ most_calls → length text ≤ most_bytes
    → (n : ℕ) × Reads n text (record { marks = reverse marks; points = [] })
said_reads _ _ nothing lawful few fits = (1, read.nothing)
said_reads _ _ (mark marks text m before of_run) lawful few fits =
    let newest : reverse (marks ++ m ∷ []) ≡ m ∷ reverse marks = reverse-append marks (m ∷ []) in
    let now : IsLawful (m ∷ reverse marks) = subst IsLawful newest lawful in
    let few_now : calls_of (m ∷ reverse marks) ≤ most_calls = subst (λ (M : List HistoryEvent). calls_of M ≤ most_calls) newest few in
    let inner = said_reads marks text before now.1 (omega arith) (omega (arith, length-append text (mark_line m))) in (
      inner.0 + 1,
      subst (λ (M : List HistoryEvent). Reads (inner.0 + 1) (text ++ mark_line m) (record { marks = M; points = [] })) (sym newest)
          (written_more inner.0 text (record { marks = reverse marks; points = [] }) (mark_text m) (Seen m) inner.1 (mark_written m of_run) (now.0, few_now) fits),
    )
said_reads _ _ (silence marks text t before silent) lawful few fits =
    let inner = said_reads marks text before lawful few (omega (arith, length-append text (t ++ 10 ∷ []))) in
    (inner.0 + 1, written_more inner.0 text (record { marks = reverse marks; points = [] }) t Other inner.1 silent tt fits)

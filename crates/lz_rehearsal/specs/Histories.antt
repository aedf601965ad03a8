-- What is written of a rehearsal is a history.
use Rattle.std.specs.Prelude.{ℕ, ◌≤◌, List, [], length, reverse}
use Rattle.lz_slot.specs.declared.{format.Format.{Format}, history.HistoryEvent.{HistoryEvent}}
use Rattle.lz_judge.specs.{Limits.{most_bytes, most_calls}, TextsRead.{Reads, calls_of}}
use Rattle.lz_machine.specs.Yards.{Shape}
use Rattle.lz_core.specs.Worlds.{IsNew, WorldOver}
use Rattle.lz_rehearsal.specs.{declared.line.Line.{Line}, Rehearsals.{Rehearsed}}

-- The text of lines that were rehearsed on a new world, within the judge's limits, is read as the history of what was seen.
abbrev pub RehearsalsReadBack : Type 0
RehearsalsReadBack =
    (shape : Shape) (format : Format) (first last : WorldOver) (lines : List Line) (marks : List HistoryEvent) (text : List ℕ)
    → IsNew shape format first → Rehearsed first lines marks text last
    → calls_of (reverse marks) ≤ most_calls → length text ≤ most_bytes
    → (n : ℕ) × Reads n text (record { marks = reverse marks; points = [] })

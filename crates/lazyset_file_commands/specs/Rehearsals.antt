-- What the rehearsal of a script tells.
use Rattle.lz_rehearsal.specs.declared.rehearsal.RehearsalFault.TheVariants as rehearsal
use Rattle.std.specs.Prelude.{◌≡◌, ◌⊎◌, ℕ, IfSome, Option, List, []}
use Rattle.lz_slot.specs.declared.format.Format.{Format}
use Rattle.lz_machine.specs.Yards.{Shape}
use Rattle.lz_core.specs.Worlds.{IsNew, WorldOver}
use Rattle.lz_rehearsal.specs.{declared.{line.Line.{Line}, rehearsal.RehearsalFault.{RehearsalFault}}, Rehearsals.{EndsAt, EndsCutShort, EndsWithin, Rehearses}}
use Rattle.lz_rehearsal.specs.Scripts.{FailsAt, IsScript}
use Rattle.lazyset_file_commands.specs.{Tellings.{LacksInput, LacksMemory, Tells, line_text, memory_text}, declared.status.Status.{Status}}
use Rattle.lazyset_file_commands.specs.declared.status.Status.TheVariants.{Done, Failed, Refused}

-- all the lines were rehearsed on a new world, and their text written
pub record RehearsedAll (shape : Shape) (format : Format) (lines : List Line) (status : Status) (before after : Option (List ℕ)) : Type 0 where
  pub first : WorldOver
  pub new : IsNew shape format first
  pub last : WorldOver
  pub rehearses : Rehearses first lines last before after
  pub done : status ≡ Done

-- the lines before this one were, and the line itself isn't lawful there, which was told after their text
pub record RehearsedTo (shape : Shape) (format : Format) (lines : List Line) (status : Status) (before after : Option (List ℕ)) : Type 0 where
  pub first : WorldOver
  pub new : IsNew shape format first
  pub number : ℕ
  pub last : WorldOver
  pub middle : Option (List ℕ)
  pub ends : EndsAt first lines number last before middle
  pub told : Tells middle after (line_text number) Refused status

-- some first lines were, and for the next one there was no memory, which was told after their text
pub record RehearsedWithin (shape : Shape) (format : Format) (lines : List Line) (status : Status) (before after : Option (List ℕ)) : Type 0 where
  pub first : WorldOver
  pub new : IsNew shape format first
  pub middle : Option (List ℕ)
  pub ends : EndsWithin first lines before middle
  pub told : LacksMemory middle after status

-- some first lines were, and after their text a part was written of that of the next one, and no more
pub record RehearsedInto (shape : Shape) (format : Format) (lines : List Line) (status : Status) (before after : Option (List ℕ)) : Type 0 where
  pub first : WorldOver
  pub new : IsNew shape format first
  pub last : WorldOver
  pub ends : EndsCutShort first lines last before after
  pub failed : status ≡ Failed

-- the lines were rehearsed on a new world, up to the one with which it ended
abbrev pub IsRehearsal : Shape → Format → List Line → Status → Option (List ℕ) → Option (List ℕ) → Type 0
IsRehearsal shape format lines status before after =
    RehearsedAll shape format lines status before after
    ⊎ RehearsedTo shape format lines status before after
    ⊎ RehearsedWithin shape format lines status before after
    ⊎ RehearsedInto shape format lines status before after

-- the input, where it is known, is the script with some lines of which this holds
abbrev pub OfScript : (List Line → Type 0) → Option (List ℕ) → Type 0
OfScript P input = (lines : List Line) × IfSome input (λ text. IsScript text lines) × P lines

-- the input is no script, and its first line that doesn't read was told
abbrev pub IsUnread : Option (List ℕ) → Status → Option (List ℕ) → Option (List ℕ) → Type 0
IsUnread input status before after = (number : ℕ) × IfSome input (λ text. FailsAt text number) × Tells before after (line_text number) Refused status

-- how the rehearsal of an input ended, and all that was written of it
abbrev pub IsRehearsed : Shape → Format → Option (List ℕ) → Status → Option (List ℕ) → Option (List ℕ) → Type 0
IsRehearsed shape format input status before after =
    OfScript (λ lines. IsRehearsal shape format lines status before after) input
    ⊎ IsUnread input status before after
    ⊎ LacksInput before after status
    ⊎ LacksMemory before after status

-- what is told of a rehearsal that ended before its script did, after what was written
abbrev pub fault_text : RehearsalFault → List ℕ
fault_text (rehearsal.Line number) = line_text number
fault_text rehearsal.Write = []
fault_text rehearsal.Memory = memory_text

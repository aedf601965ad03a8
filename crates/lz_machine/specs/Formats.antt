-- A file keeps its format.
use Rattle.std.specs.Prelude.{◌≡◌, ℕ, List}
use Rattle.lz_slot.specs.{declared.format.Format.{Format}, Bytes.{format_of}, Histories.{History}}
use Rattle.lz_disk.specs.Images.{IsImage}
use Rattle.lz_list.specs.Traces.{Trace}
use Rattle.lz_vault.specs.Stages.{Suits}
use Rattle.lz_machine.specs.Runs.{Start, State, Up, Down, MayLeave, Reached, disk_of}

-- the service is one over a file of this format, or each image of its disk is such a file
abbrev pub HasFormat : Format → State → Type 0
HasFormat format (Up service disk) = service.yard.vault.format ≡ format
HasFormat format (Down shape disk) = (t : List ℕ) → IsImage disk t → format_of t ≡ format

-- In each state that is reached the file is of the format of the text with which the run began, on a medium that suits it, and so
-- is each text that a crash may leave.
abbrev pub FormatsStay : Type 0
FormatsStay =
    (start : Start) (w : State) (M : History) (P : Trace)
    → Reached start w M P
    → HasFormat (format_of start.text) w × Suits (format_of start.text) (disk_of w) × ((t : List ℕ) → MayLeave w t → format_of t ≡ format_of start.text)

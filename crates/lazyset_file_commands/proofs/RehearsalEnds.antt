-- How a rehearsal's end is told.
use Rattle.lz_rehearsal.specs.declared.rehearsal.RehearsalFault.TheVariants as at
use Rattle.std.proofs.{Common.{◌≡◌, inl, inr, ℕ, Option, List, refl, arith, append-nil}, lemmas.Bool.Decides.{nat_tests}}
use Rattle.lz_slot.specs.declared.format.Format.{Format}
use Rattle.lz_machine.specs.Yards.{Shape}
use Rattle.lz_core.specs.Worlds.{IsNew, WorldOver}
use Rattle.lz_rehearsal.specs.{declared.{line.Line.{Line}, rehearsal.RehearsalFault.{RehearsalFault}}, Rehearsals.{EndsAt, EndsCutShort, EndsWithin}}
use Rattle.lazyset_file_commands.specs.{Ends.{rehearsal_status}, Rehearsals.{IsRehearsal, fault_text}, Tellings.{Tells}, declared.status.Status.{Status}}

abbrev Text : Type 0
Text = Option (List ℕ)

-- the lines of a script were rehearsed up to a fault, which was told
pub fault_told : (shape : Shape) (format : Format) (lines : List Line) (first last : WorldOver) (fault : RehearsalFault) (status : Status) (before middle after : Text) → IsNew shape format first
    → ((number : ℕ) → fault ≡ at.Line number → EndsAt first lines number last before middle)
    → (fault ≡ at.Write → EndsCutShort first lines last before middle)
    → (fault ≡ at.Memory → EndsWithin first lines before middle)
    → Tells middle after (fault_text fault) (rehearsal_status fault) status → IsRehearsal shape format lines status before after
fault_told shape format lines first last (at.Line number) status before middle after new to cut within told =
    inr (inl (record { first = first; new = new; number = number; last = last; middle = middle; ends = to number refl; told = told }))
fault_told shape format lines first last fault status before middle after new to cut within told = grind (arith, nat_tests, append-nil)

-- What a making tells.
use Rattle.std.specs.Prelude.{ℕ, IsTrue, List, Option, codes, decimal, ◌++◌, ◌∷◌, []}
use Rattle.lz_slot.specs.declared.format.Format.{Format}
use Rattle.lz_disk.specs.Devices.{Device as Disk}
use Rattle.lz_vault.specs.{Makes.{IsMakeFaultOf, IsRenewed, MayBeMade, make_fault_number}, declared.making.MakeFault.{MakeFault}}
use Rattle.lazyset_file_commands.specs.{Ends.{make_status}, Tellings.{Tells}, declared.status.Status.{Status, TheVariants.{Done}}}

-- the line of a making that was done
abbrev pub made_text : ℕ → List ℕ
made_text slots = codes "made " ++ decimal slots ++ 10 ∷ []

-- the line of a refusal with this number
abbrev pub refused_text : ℕ → List ℕ
refused_text number = codes "refused " ++ decimal number ++ 10 ∷ []

-- the line of a refusal of so many members in so many slots
abbrev pub room_text : ℕ → ℕ → List ℕ
room_text members slots = codes "refused 9 " ++ decimal members ++ codes " " ++ decimal slots ++ 10 ∷ []

-- A file of this format without members was made, and this was told.
pub record MadeFile (format : Format) (slots : ℕ) (status : Status) (before after : Option (List ℕ)) (old new : Disk) : Type 0 where
  pub fresh : IsTrue old.honest → IsRenewed new.medium format slots [] × MayBeMade old.medium.seen slots
  pub told : Tells before after (made_text slots) Done status

-- No file was made for a fault, and this was told.
pub record RefusedMaking (format : Format) (slots : ℕ) (status : Status) (before after : Option (List ℕ)) (old new : Disk) : Type 0 where
  pub fault : MakeFault
  pub why : IsMakeFaultOf old new format slots fault
  pub told : Tells before after (refused_text (make_fault_number fault)) (make_status fault) status

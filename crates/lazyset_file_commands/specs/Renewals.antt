-- What a renewal tells.
use Rattle.lz_vault.specs.declared.making.MakeFault.TheVariants as making
use Rattle.std.specs.Prelude.{◌≡◌, ◌↔◌, ◌+◌, ◌++◌, ◌∷◌, [], ℕ, IfErr, IfOk, IsErrOf, IsTrue, OnOk, List, Result, Ok, Err, codes, decimal}
use Rattle.lz_slot.specs.declared.format.Format.{Format}
use Rattle.lz_disk.specs.Devices.{Device}
use Rattle.lz_vault.specs.{Makes.{IsBadCount, make_fault_number}, Opens.{open_fault_number}, Scans.{calls_of_reading}, Renewals.{IsRenewFaultOf, Renews}}
use Rattle.lz_vault.specs.declared.{opening.OpenFault.{OpenFault, TheVariants.{BadKey, Twice}}, renewing.RenewFault.{RenewFault}}
use Rattle.lz_vault.specs.declared.renewing.RenewFault.TheVariants.{Old, New, TooSmall}
use Rattle.lazyset_file_commands.specs.{Ends.{make_status, open_status}, Makings.{room_text}, declared.status.Status.{Status, TheVariants.{Done, Refused}}}

-- the line of a renewal whose old file was refused, or whose new one was, with this number
abbrev pub old_number_text : ℕ → List ℕ
old_number_text number = codes "refused old " ++ decimal number ++ 10 ∷ []

abbrev pub new_number_text : ℕ → List ℕ
new_number_text number = codes "refused new " ++ decimal number ++ 10 ∷ []

-- the line of a renewal whose old file was refused
abbrev pub old_text : OpenFault → List ℕ
old_text (BadKey s) = codes "refused old 5 " ++ decimal s ++ 10 ∷ []
old_text (Twice first second) = codes "refused old 6 " ++ decimal first ++ codes " " ++ decimal second ++ 10 ∷ []
old_text fault = old_number_text (open_fault_number fault)

-- the line of a renewal: how many members there are, or which file was refused, and why
abbrev pub renewal_text : Result ℕ RenewFault → List ℕ
renewal_text (Ok members) = codes "renewed " ++ decimal members ++ 10 ∷ []
renewal_text (Err (Old fault)) = old_text fault
renewal_text (Err (New fault)) = new_number_text (make_fault_number fault)
renewal_text (Err (TooSmall members slots)) = room_text members slots

-- how a renewal ends, where that could be told
abbrev pub renewal_status : Result ℕ RenewFault → Status
renewal_status (Ok members) = Done
renewal_status (Err (Old fault)) = open_status fault
renewal_status (Err (New fault)) = make_status fault
renewal_status (Err (TooSmall members slots)) = Refused

-- A renewal into this format with n slots answered so: the new device has the old one's members, or the fault is true and is the first one.
pub record IsRenewal (old old_after new new_after : Device) (format : Format) (n : ℕ) (answer : Result ℕ RenewFault) : Type 0 where
  pub renewed : IfOk answer (Renews old new new_after format n)
  pub refused : IfErr answer (IsRenewFaultOf old old_after new new_after format n)
  pub count : IsErrOf answer (New making.BadCount) ↔ IsBadCount format n
  pub read : IsTrue old.honest → OnOk answer (old_after.calls ≡ old.calls + calls_of_reading old.medium.seen)

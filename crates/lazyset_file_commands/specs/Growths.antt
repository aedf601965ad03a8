-- What a growth of a file leaves and tells.
use Rattle.lz_vault.specs.declared.making.MakeFault.TheVariants as making
use Rattle.lz_vault.specs.declared.opening.OpenFault.TheVariants as opening
use Rattle.lazyset_file_commands.specs.declared.growing.Standing.TheVariants as stands
use Rattle.std.specs.Prelude.{◌≡◌, ◌≢◌, ◌⊎◌, ◌↔◌, ◌+◌, ◌*◌, ◌<◌, ◌++◌, ◌∷◌, [], ℕ, IfErr, IfOk, IsErrOf, IsTrue, OnOk, List, Result, Ok, Err, codes, decimal}
use Rattle.lz_slot.specs.{Bytes.{Holds, format_of}, Sets.{Keys}, declared.format.Format.{Format}}
use Rattle.lz_disk.specs.{Images.{IsImage, at_rest}, Devices.{Device}}
use Rattle.lz_judge.specs.Renewals.{HoldOneSet}
use Rattle.lz_vault.specs.{Makes.{IsBadCount, calls_of_making}, Renewals.{IsRenewFaultOf, IsToldFirst, Renews}, Scans.{calls_of_reading}}
use Rattle.lz_vault.specs.declared.{opening.OpenFault.{OpenFault}, renewing.RenewFault.{RenewFault, TheVariants.{Old, New}}}
use Rattle.lazyset_file_commands.specs.{Renewals.{renewal_text}, declared.growing.Standing.{Standing}}

-- nothing of either file is loose, and both hold one set: so does what a crash leaves under a name, whichever of them has it
abbrev pub HoldOneSetAtRest : Device → Device → Type 0
HoldOneSetAtRest old new =
    IsTrue old.honest → IsTrue new.honest
    → (old.medium ≡ at_rest old.medium.bytewise old.medium.seen) × (new.medium ≡ at_rest new.medium.bytewise new.medium.seen) × HoldOneSet old.medium.seen new.medium.seen

-- What a crash at some moment of a growth may have left under the name: a text of the old file, or, where the new one may have
-- the name, one of that.
abbrev pub MayBeLeft : Device → Device → Device → Standing → List ℕ → Type 0
MayBeLeft old old_after new_after stood t = old_after.left_since old.moment t ⊎ ((stood ≢ stands.Old) × IsImage new_after.medium t)

-- that is what a crash might have left of the old file before, or a file of its set, of this format with n slots
abbrev pub IsLeftOrHolds : Device → Format → ℕ → Keys → List ℕ → Type 0
IsLeftOrHolds old format n S t = IsImage old.medium t ⊎ (Holds t n S × (format_of t ≡ format))

-- A growth was refused as the renewal was, and no file was put in the old one's place.
pub record IsRefusedFirst (old old_after new new_after : Device) (untouched : Type 0) (stood : Standing) (format : Format) (n : ℕ) (fault : RenewFault) : Type 0 where
  pub why : IsRenewFaultOf old old_after new new_after format n fault
  pub first : IsToldFirst fault → untouched
  pub keeps : stood ≡ stands.Old

-- Why two files that hold one set weren't both read so again: a device failed, or there was no memory, or one of them isn't honest.
abbrev pub IsUnread : Device → Device → Device → Device → RenewFault → Type 0
IsUnread old old_after new new_after (Old opening.Device) = old.faults < old_after.faults
IsUnread old old_after new new_after (Old opening.Memory) = Unit {0}
IsUnread old old_after new new_after (Old fault) = ¬ IsTrue old.honest
IsUnread old old_after new new_after (New making.Device) = (new.faults < new_after.faults) ⊎ (IsTrue old.honest → ¬ IsTrue new.honest)
IsUnread old old_after new new_after fault = ⊥

-- how it is told that the new file couldn't be read again
abbrev pub new_fault : OpenFault → RenewFault
new_fault opening.Memory = Old opening.Memory
new_fault fault = New making.Device

-- A new file was made, and a growth was refused: the files weren't read again, and the old one keeps its name, or the new one wasn't put.
pub record IsRefusedLate (old old_after new new_after : Device) (stood : Standing) (format : Format) (n : ℕ) (fault : RenewFault) : Type 0 where
  pub made : (m : ℕ) × Renews old new new_after format n m
  pub why : ((stood ≡ stands.Old) × IsUnread old old_after new new_after fault) ⊎ ((stood ≡ stands.Either) × (fault ≡ New making.Device))

-- A growth of a file into this format with n slots answered so: the new device has the old one's members, and stands in its place;
-- or the fault is true. Both files were read again where it succeeded.
pub record IsGrowth (old old_after new new_after : Device) (untouched : Type 0) (stood : Standing) (format : Format) (n : ℕ) (answer : Result ℕ RenewFault) : Type 0 where
  pub grown : IfOk answer (λ m. Renews old new new_after format n m × (stood ≡ stands.New))
  pub refused : IfErr answer (λ fault. IsRefusedFirst old old_after new new_after untouched stood format n fault ⊎ IsRefusedLate old old_after new new_after stood format n fault)
  pub count : IsErrOf answer (New making.BadCount) ↔ IsBadCount format n
  pub read : IsTrue old.honest → OnOk answer (old_after.calls ≡ old.calls + 2 * calls_of_reading old.medium.seen)
  pub checked : IsTrue new.honest → OnOk answer (new_after.calls ≡ new.calls + calls_of_making new.medium.seen n + calls_of_reading new_after.medium.seen)

-- the line of a growth
abbrev pub growth_text : Result ℕ RenewFault → List ℕ
growth_text (Ok members) = codes "grown " ++ decimal members ++ 10 ∷ []
growth_text (Err fault) = renewal_text (Err fault)

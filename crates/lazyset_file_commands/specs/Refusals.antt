-- What a refused open tells.
use Rattle.std.specs.Prelude.{◌≡◌, ◌⊎◌, ℕ, Option, List, [], ◌∷◌, ◌++◌, codes, decimal}
use Rattle.lz_disk.specs.{Images.{IsImage, synced}, Devices.{Device, LeavesOnly}}
use Rattle.lz_vault.specs.{Opens.{IsRefusedFor, open_fault_number}, declared.opening.OpenFault.{OpenFault}}
use Rattle.lz_vault.specs.declared.opening.OpenFault.TheVariants.{BadKey, Memory, Twice, Device as DeviceFailed}
use Rattle.lazyset_file_commands.specs.{Ends.{open_status}, Makings.{refused_text}, Tellings.{Tells}, declared.status.Status.{Status, TheVariants.{Failed}}}

-- the line of a refused open
abbrev pub refusal_text : OpenFault → List ℕ
refusal_text (BadKey s) = codes "refused 5 " ++ decimal s ++ 10 ∷ []
refusal_text (Twice first second) = codes "refused 6 " ++ decimal first ++ codes " " ++ decimal second ++ 10 ∷ []
refusal_text fault = refused_text (open_fault_number fault)

-- The open was refused, nothing was read of the input, and the refusal was told.
pub record RefusedOpen {D : Type 0} (device : D → Device) (status : Status) (input rest before after : Option (List ℕ)) (old new : D) : Type 0 where
  pub fault : OpenFault
  pub refused : IsRefusedFor (device old) (device new) fault
  pub unread : rest ≡ input
  pub told : Tells before after (refusal_text fault) (open_status fault) status

-- The device failed at the open, or there was no memory: this was told, and nothing was written to the disk. A crash at any moment
-- leaves what it might have left before.
pub record FailedOpen (status : Status) (before after : Option (List ℕ)) (old new : Device) : Type 0 where
  pub fault : OpenFault
  pub cause : (fault ≡ DeviceFailed) ⊎ (fault ≡ Memory)
  pub told : Tells before after (refusal_text fault) Failed status
  pub unwritten : (new.medium ≡ old.medium) ⊎ (new.medium ≡ synced old.medium)
  pub any_moment : LeavesOnly old new (λ t. IsImage old.medium t)

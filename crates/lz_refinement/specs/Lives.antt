-- What holds of a set's life over one open: its file's format, its device, and why its vault is dead, where it is.
use Rattle.std.specs.Prelude.{◌≡◌, ◌⊎◌, ℕ, suc, ◌+◌, ◌≤◌, ◌<◌, true, List, [], ◌∷◌}
use Rattle.lz_slot.specs.declared.format.Format.{Format}
use Rattle.lz_disk.specs.Devices.{Device}
use Rattle.lz_vault.specs.Vaults.{last_sync}
use Rattle.lz_machine.specs.{declared.event.Outcome.TheVariants.{Fault}, Yards.{Yard}}
use Rattle.lz_board.specs.declared.view.{What.{What, TheVariants.{Played}}, Note.{Note}}

-- how many device calls failed, after one more step
abbrev pub faults_with : What → ℕ → ℕ
faults_with (Played e Fault) faults = suc faults
faults_with _ faults = faults

-- how many failed
abbrev pub faults_in : List Note → ℕ
faults_in [] = 0
faults_in (n ∷ ns) = faults_with n.what (faults_in ns)

-- Since the disk was like `first`: the file's format, whether the device keeps to its model, that each step of these notes whose
-- device call failed was one of its failures, and why the vault is dead, if it is.
pub record LivesOn (F : Format) (first : Device) (ns : List Note) (y : Yard) (disk : Device) : Type 0 where
  pub format : y.vault.format ≡ F
  pub honest : disk.honest ≡ first.honest
  pub faults : first.faults + faults_in ns ≤ disk.faults
  pub dead : y.vault.dead ≡ true → (last_sync ≤ y.vault.syncs) ⊎ (first.faults < disk.faults)

-- A step of the yard and of its device keeps the format, and a vault dies in it only where no sync is left or the device failed.
pub record KeepsLife (y : Yard) (old : Device) (z : Yard) (new : Device) : Type 0 where
  pub format : z.vault.format ≡ y.vault.format
  pub honest : new.honest ≡ old.honest
  pub faults : old.faults ≤ new.faults
  pub syncs : y.vault.syncs ≤ z.vault.syncs
  pub dead : z.vault.dead ≡ true → (y.vault.dead ≡ true) ⊎ ((last_sync ≤ z.vault.syncs) ⊎ (old.faults < new.faults))

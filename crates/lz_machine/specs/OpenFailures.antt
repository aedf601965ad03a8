-- Opens that are refused.
use Rattle.std.specs.Prelude.{◌≡◌, ◌⊎◌, ℕ, List}
use Rattle.lz_slot.specs.{Bytes.{Holds}, Sets.{Keys}}
use Rattle.lz_vault.specs.{Opens.{IsFaultOf, open_fault_number}, declared.opening.OpenFault.{OpenFault, TheVariants.{Device, Memory}}}

-- the number of an open that was refused because of the device or when out of memory
abbrev pub IsOpenFailure : ℕ → Type 0
IsOpenFailure why = (why ≡ open_fault_number Device) ⊎ (why ≡ open_fault_number Memory)

-- A text that holds a set is refused for no other cause.
abbrev pub HeldIsOpened : Type 0
HeldIsOpened =
    (t : List ℕ) (N : ℕ) (S : Keys) (fault : OpenFault)
    → Holds t N S → IsFaultOf t fault → (fault ≡ Device) ⊎ (fault ≡ Memory)

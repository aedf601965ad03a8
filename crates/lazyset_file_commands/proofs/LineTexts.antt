-- What the lines of renewals say, case by case.
use Rattle.std.proofs.{Common.{◌≡◌, ℕ, arith}, lemmas.Bool.Decides.{nat_tests}}
use Rattle.lz_vault.specs.{Opens.{open_fault_number}, declared.opening.OpenFault.{OpenFault, TheVariants.{BadKey, Twice}}}
use Rattle.lazyset_file_commands.specs.Renewals.{old_number_text, old_text}

-- a fault of an old file without slots is told by its number
pub old_numbered : (fault : OpenFault) → ((s : ℕ) → fault ≡ BadKey s → ⊥) → ((first second : ℕ) → fault ≡ Twice first second → ⊥) → old_text fault ≡ old_number_text (open_fault_number fault)
old_numbered fault no_key no_twin = grind (arith, nat_tests)

-- Worked rows: which faults of a renewal are told with no call on the new device, and what is told of too small a file.
use Rattle.std.proofs.Common.{◌≡◌, ◌<◌, ℕ, refl, arith}
use Rattle.lz_slot.specs.declared.format.Format.TheVariants.{Two, Three}
use Rattle.lz_disk.specs.Devices.{Device}
use Rattle.lz_vault.specs.Renewals.{IsToldFirst, IsRenewFaultOf, renew_fault_number}
use Rattle.lz_vault.specs.declared.making.MakeFault.TheVariants.{AlreadyMade, BadCount, Device as DeviceFailed, TooLong}
use Rattle.lz_vault.specs.declared.{opening.OpenFault.TheVariants.{Memory, Device as OldDeviceFailed}, renewing.RenewFault.TheVariants.{Old, New, TooSmall}}

-- three members and two slots: the new device isn't called
too_small_first : IsToldFirst (TooSmall 3 2)
too_small_first = tt

-- nor for a count that no file has, nor for a fault of the old file
bad_count_first : IsToldFirst (New BadCount)
bad_count_first = refl

old_first : IsToldFirst (Old Memory) × IsToldFirst (Old OldDeviceFailed)
old_first = (tt, tt)

-- the other faults of the new file are told by a call on it
made_not_first : IsToldFirst (New AlreadyMade) → ⊥
made_not_first h = absurd cc

long_not_first : IsToldFirst (New TooLong) → ⊥
long_not_first h = absurd cc

device_not_first : IsToldFirst (New DeviceFailed) → ⊥
device_not_first h = absurd cc

-- what is told of too small a file is the number of slots that were asked for, and more members than that
other_slots : (old old_after new new_after : Device) → IsRenewFaultOf old old_after new new_after Two 4 (TooSmall 5 2) → ⊥
other_slots old old_after new new_after h = let asked : ◌≡◌ {A = ℕ} 2 4 = h.0 in absurd (omega (arith, asked))

enough_slots : (old old_after new new_after : Device) → IsRenewFaultOf old old_after new new_after Three 3 (TooSmall 3 3) → ⊥
enough_slots old old_after new new_after h = let more : 3 < 3 = h.1 in absurd (omega (arith, more))

-- a program tells it by a number of its own
fault_numbers : (renew_fault_number (TooSmall 3 2) ≡ 9) × (renew_fault_number (Old Memory) ≡ 8) × (renew_fault_number (New BadCount) ≡ 2)
fault_numbers = (refl, refl, refl)

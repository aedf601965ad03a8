-- What a renewal reads and leaves, and why one is refused.
use Rattle.std.specs.Prelude.{◌≡◌, ◌≢◌, ◌⊎◌, ℕ, ◌≤◌, ◌<◌, IsTrue, List, length, map}
use Rattle.lz_slot.specs.{Sets.{members}, Bytes.{Holds, held}, declared.format.Format.{Format}}
use Rattle.lz_disk.specs.{Images.{synced}, Devices.{Device}}
use Rattle.lz_vault.specs.{Vaults.{LeavesEither}, Opens.{IsRefusedFor, open_fault_number}, Makes.{IsMakeFaultOf, IsRenewed, MayBeMade, make_fault_number}}
use Rattle.lz_vault.specs.declared.{making.MakeFault.TheVariants.{BadCount}, renewing.RenewFault.{RenewFault, TheVariants.{Old, New, TooSmall}}}

-- The device was read, and what is read was made durable, and nothing else.
pub record OnlySyncs (before after : Device) : Type 0 where
  pub honest : after.honest ≡ before.honest
  pub medium : IsTrue before.honest → (after.medium ≡ before.medium) ⊎ (after.medium ≡ synced before.medium)
  pub time : IsTrue before.honest → LeavesEither before after
  pub faults : before.faults ≤ after.faults

-- a text is a file of a set of these keys, which stand in its slots in this order
abbrev pub AreHeldBy : List ℕ → List ℕ → Type 0
AreHeldBy t ks = (N : ℕ) × Holds t N (members ks) × (ks ≡ map (λ node. node.0) (held t N))

-- a device, if it is honest, has a file of so many members
abbrev pub HoldsSoMany : Device → ℕ → Type 0
HoldsSoMany disk m = IsTrue disk.honest → (ks : List ℕ) × AreHeldBy disk.medium.seen ks × (length ks ≡ m)

-- the m members of the old file stand in a new one of this format with n slots, which is on the disk at rest
abbrev pub Renews : Device → Device → Device → Format → ℕ → ℕ → Type 0
Renews old before after format n m =
    (ks : List ℕ) × (length ks ≡ m) × (m ≤ n) × (IsTrue old.honest → AreHeldBy old.medium.seen ks)
    × (IsTrue before.honest → IsRenewed after.medium format n ks × MayBeMade before.medium.seen n)

-- a fault that is told with no call on the new device
abbrev pub IsToldFirst : RenewFault → Type 0
IsToldFirst (Old fault) = Unit {0}
IsToldFirst (New fault) = fault ≡ BadCount
IsToldFirst (TooSmall m n) = Unit {0}

-- why a file isn't renewed: it isn't opened, or has more members than n, or else no new file of this format with n slots is made
abbrev pub IsRenewFaultOf : Device → Device → Device → Device → Format → ℕ → RenewFault → Type 0
IsRenewFaultOf old old_after new new_after format n (Old fault) = IsRefusedFor old old_after fault
IsRenewFaultOf old old_after new new_after format n (TooSmall m slots) = (slots ≡ n) × (n < m) × HoldsSoMany old m
IsRenewFaultOf old old_after new new_after format n (New fault) =
    IsMakeFaultOf new new_after format n fault × (fault ≢ BadCount → (m : ℕ) × (m ≤ n) × HoldsSoMany old m)

-- the number by which a program tells a fault
abbrev pub renew_fault_number : RenewFault → ℕ
renew_fault_number (Old fault) = open_fault_number fault
renew_fault_number (New fault) = make_fault_number fault
renew_fault_number (TooSmall m n) = 9

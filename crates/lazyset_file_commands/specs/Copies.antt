-- What a copy of a running set leaves and tells.
use Rattle.std.specs.Prelude.{◌≡◌, ◌≢◌, ◌⊎◌, ◌↔◌, ◌≤◌, ◌<◌, ◌++◌, ◌∷◌, [], ℕ, IfErr, IfOk, IsErrOf, IsTrue, List, Option, Result, Ok, Err, codes, decimal}
use Rattle.std.specs.Prelude.{length}
use Rattle.lz_slot.specs.{Sets.{members}, declared.format.Format.{Format}}
use Rattle.lz_disk.specs.{Images.{IsImage}, Devices.{Device, LeavesOnly}}
use Rattle.lz_scan_client.specs.{Scanning.{HasTold, IsScan}, declared.fault.ScanFault.{ScanFault, TheVariants.{Connection, Reply, Memory}}}
use Rattle.lz_vault.specs.Makes.{IsBadCount, IsMakeFaultOf, IsRenewed, IsUnmadeOrHolds, MayBeMade, make_fault_number}
use Rattle.lz_vault.specs.declared.making.MakeFault.TheVariants.{BadCount}
use Rattle.lazyset_file_commands.specs.{Ends.{make_status}, Makings.{refused_text, room_text}, Tellings.{memory_text, unread_text}}
use Rattle.lazyset_file_commands.specs.declared.{copying.CopyFault.{CopyFault, TheVariants.{OfScan, TooMany, OfMaking}}, status.Status.{Status}}
use Rattle.lazyset_file_commands.specs.declared.status.Status.TheVariants.{Done, Failed, Refused}

-- What passed over a connection: what the service told, where it is known, and what was sent before and after.
pub record Passed : Type 0 where
  pub input : Option (List ℕ)
  pub before : Option (List ℕ)
  pub after : Option (List ℕ)

-- all rooms were scanned to their ends over it, and these are the keys that were told, each once
abbrev pub IsScannedAs : Passed → List ℕ → Type 0
IsScannedAs passed keys = IsScan passed.input passed.before passed.after keys

-- the disk is at rest with a file of this format and so many slots, of which the first hold the keys that a whole scan told, so many
abbrev pub MakesCopy : Format → ℕ → Passed → Device → Device → ℕ → Type 0
MakesCopy format slots passed before after m =
    (keys : List ℕ) × IsScannedAs passed keys × (length keys ≡ m)
    × (IsTrue before.honest → IsRenewed after.medium format slots keys × MayBeMade before.medium.seen slots)

-- so many keys were told, and perhaps more are to come
abbrev pub HasToldSoMany : Passed → ℕ → Type 0
HasToldSoMany passed m = HasTold passed.input passed.before passed.after m

-- a whole scan told so many keys
abbrev pub TellsSoMany : Passed → ℕ → Type 0
TellsSoMany passed m = (keys : List ℕ) × IsScannedAs passed keys × (length keys ≡ m)

-- Why no copy was made: the service wasn't scanned to its end, or told more keys than slots, or no file of this format with so many
-- slots is made.
abbrev pub IsCopyFaultOf : Format → ℕ → Passed → Device → Device → CopyFault → Type 0
IsCopyFaultOf format slots passed before after (OfScan fault) = Unit {0}
IsCopyFaultOf format slots passed before after (TooMany m n) = (n ≡ slots) × (slots < m) × HasToldSoMany passed m
IsCopyFaultOf format slots passed before after (OfMaking fault) =
    IsMakeFaultOf before after format slots fault × (fault ≢ BadCount → (m : ℕ) × (m ≤ slots) × TellsSoMany passed m)

-- a fault that is told with no call on the device
abbrev pub IsToldFirst : CopyFault → Type 0
IsToldFirst (OfScan fault) = Unit {0}
IsToldFirst (TooMany m n) = Unit {0}
IsToldFirst (OfMaking fault) = fault ≡ BadCount

-- A copy into a file of this format with so many slots, of what passed so, answered so.
pub record IsCopy (format : Format) (slots : ℕ) (passed : Passed) (before after : Device) (answer : Result ℕ CopyFault) : Type 0 where
  pub made : IfOk answer (MakesCopy format slots passed before after)
  pub refused : IfErr answer (IsCopyFaultOf format slots passed before after)
  pub count : IsErrOf answer (OfMaking BadCount) ↔ IsBadCount format slots

-- At each moment a crash leaves what it might have left before, or else nothing that is made, or a file of this format with so many
-- slots and all the keys that a whole scan told.
abbrev pub LeavesCopy : Format → ℕ → Passed → Device → Device → Type 0
LeavesCopy format slots passed before after =
    LeavesOnly before after (IsImage before.medium)
    ⊎ ((keys : List ℕ) × IsScannedAs passed keys × LeavesOnly before after (λ t. IsImage before.medium t ⊎ IsUnmadeOrHolds format slots (members keys) t))

-- what is said of a reply that is no page of keys
abbrev pub reply_text : List ℕ
reply_text = codes "noreply" ++ 10 ∷ []

abbrev pub scan_text : ScanFault → List ℕ
scan_text Connection = unread_text
scan_text Reply = reply_text
scan_text Memory = memory_text

abbrev pub scan_status : ScanFault → Status
scan_status Connection = Failed
scan_status Reply = Refused
scan_status Memory = Failed

-- the line of a copy: how many keys it has, or why none was made
abbrev pub copy_text : Result ℕ CopyFault → List ℕ
copy_text (Ok m) = codes "copied " ++ decimal m ++ 10 ∷ []
copy_text (Err (OfScan fault)) = scan_text fault
copy_text (Err (TooMany m n)) = room_text m n
copy_text (Err (OfMaking fault)) = refused_text (make_fault_number fault)

abbrev pub copy_status : Result ℕ CopyFault → Status
copy_status (Ok m) = Done
copy_status (Err (OfScan fault)) = scan_status fault
copy_status (Err (TooMany m n)) = Refused
copy_status (Err (OfMaking fault)) = make_status fault

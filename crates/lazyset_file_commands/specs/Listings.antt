-- What a making from a list of keys leaves and tells.
use Rattle.std.specs.Prelude.{◌≡◌, ◌≢◌, ◌⊎◌, ◌↔◌, ◌≤◌, ◌<◌, ◌++◌, ◌∷◌, [], ℕ, IfErr, IfSome, IsErrOf, IsTrue, OnOk, List, Option, Result, Ok, Err, codes}
use Rattle.std.specs.Prelude.{decimal, length}
use Rattle.lz_slot.specs.{Sets.{members}, declared.format.Format.{Format}}
use Rattle.lz_disk.specs.{Images.{IsImage}, Devices.{Device, LeavesOnly}}
use Rattle.lz_vault.specs.Makes.{IsBadCount, IsMakeFaultOf, IsRenewed, IsUnmadeOrHolds, MayBeMade, make_fault_number}
use Rattle.lz_vault.specs.declared.making.MakeFault.TheVariants.{BadCount}
use Rattle.lazyset_file_commands.specs.{Ends.{make_status}, Lists.{IsListFaultOf, Lists, Named}, Makings.{made_text, refused_text, room_text}}
use Rattle.lazyset_file_commands.specs.{Tellings.{line_text, memory_text, unread_text}, declared.list.ListFault.{ListFault}}
use Rattle.lazyset_file_commands.specs.declared.{list.ListFault.TheVariants.{Line, Twice, Read, Memory}, listing.ListingFault.{ListingFault}}
use Rattle.lazyset_file_commands.specs.declared.{listing.ListingFault.TheVariants.{OfList, TooMany, OfMaking}, status.Status.{Status}}
use Rattle.lazyset_file_commands.specs.declared.status.Status.TheVariants.{Done, Failed, Refused}

-- the disk is at rest with a file of this format and so many slots, of which the first hold the keys that the input lists
abbrev pub MakesListed : Format → Named → ℕ → Option (List ℕ) → Device → Device → Type 0
MakesListed format named slots input before after =
    (keys : List ℕ) × IfSome input (λ text. Lists named text keys)
    × (IsTrue before.honest → IsRenewed after.medium format slots keys × MayBeMade before.medium.seen slots)

-- the input, where it is known, lists so many keys
abbrev pub ListsSoMany : Named → Option (List ℕ) → ℕ → Type 0
ListsSoMany named input m = IfSome input (λ text. (keys : List ℕ) × Lists named text keys × (length keys ≡ m))

-- Why no file was made: the input is no list, or lists more keys than slots, or else no file of this format with so many slots is made.
abbrev pub IsListingFaultOf : Format → Named → ℕ → Option (List ℕ) → Device → Device → ListingFault → Type 0
IsListingFaultOf format named slots input before after (OfList fault) = IfSome input (λ text. IsListFaultOf named text fault)
IsListingFaultOf format named slots input before after (TooMany m n) = (n ≡ slots) × (slots < m) × ListsSoMany named input m
IsListingFaultOf format named slots input before after (OfMaking fault) =
    IsMakeFaultOf before after format slots fault × (fault ≢ BadCount → (m : ℕ) × (m ≤ slots) × ListsSoMany named input m)

-- a fault that is told with no call on the device
abbrev pub IsToldFirst : ListingFault → Type 0
IsToldFirst (OfList fault) = Unit {0}
IsToldFirst (TooMany m n) = Unit {0}
IsToldFirst (OfMaking fault) = fault ≡ BadCount

-- A making of a file of this format with so many slots from this input answered so.
pub record IsListing (format : Format) (named : Named) (slots : ℕ) (input : Option (List ℕ)) (before after : Device) (answer : Result (Unit {0}) ListingFault) : Type 0 where
  pub made : OnOk answer (MakesListed format named slots input before after)
  pub refused : IfErr answer (IsListingFaultOf format named slots input before after)
  pub count : IsErrOf answer (OfMaking BadCount) ↔ IsBadCount format slots

-- At each moment a crash leaves what it might have left before, or else nothing that is made, or a file of this format with so many
-- slots and all the keys that the input lists.
abbrev pub LeavesListed : Format → Named → ℕ → Option (List ℕ) → Device → Device → Type 0
LeavesListed format named slots input before after =
    LeavesOnly before after (IsImage before.medium)
    ⊎ ((keys : List ℕ) × IfSome input (λ text. Lists named text keys)
    × LeavesOnly before after (λ t. IsImage before.medium t ⊎ IsUnmadeOrHolds format slots (members keys) t))

-- the line of an input that is no list of keys, and how the command ends then, where that could be told
abbrev pub list_text : ListFault → List ℕ
list_text (Line number) = line_text number
list_text (Twice number) = codes "twice " ++ decimal number ++ 10 ∷ []
list_text Read = unread_text
list_text Memory = memory_text

abbrev pub list_status : ListFault → Status
list_status (Line number) = Refused
list_status (Twice number) = Refused
list_status Read = Failed
list_status Memory = Failed

-- the line of a making from a list, and how it ends, where that could be told
abbrev pub listing_text : ℕ → Result (Unit {0}) ListingFault → List ℕ
listing_text slots (Ok done) = made_text slots
listing_text slots (Err (OfList fault)) = list_text fault
listing_text slots (Err (TooMany m n)) = room_text m n
listing_text slots (Err (OfMaking fault)) = refused_text (make_fault_number fault)

abbrev pub listing_status : Result (Unit {0}) ListingFault → Status
listing_status (Ok done) = Done
listing_status (Err (OfList fault)) = list_status fault
listing_status (Err (TooMany m n)) = Refused
listing_status (Err (OfMaking fault)) = make_status fault

-- Keys that a scan told, of which a file is made.
use Rattle.std.proofs.Common.{◌≡◌, ℕ, ◌≤◌, List, length, Option}
use Rattle.lz_slot.specs.{Limits.{last_room}, Rooms.{last_room_of}, declared.format.Format.{Format}}
use Rattle.lz_scan_client.specs.Scanning.{IsScan}
use Rattle.lz_vault.specs.Makes.{MayBeMembers}
use Rattle.lazyset_file_commands.proofs.Listed.{once_members}

-- keys that were told can be the members of a file with room for them
pub told_members : (format : Format) (slots : ℕ) (input before after : Option (List ℕ)) (keys : List ℕ) → last_room_of format ≡ last_room → IsScan input before after keys → length keys ≤ slots
    → MayBeMembers format slots keys
told_members format slots input before after keys rooms (left, reached) few = once_members format slots reached.told keys rooms reached.once few

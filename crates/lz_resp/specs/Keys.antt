-- Parts of the set and the keys of their members. A part's name is a room and a member a number, or both are any bytes.
use Rattle.lz_resp.specs.declared.subset.Subset.TheVariants as borrowed
use Rattle.std.specs.Prelude.{◌≡◌, ◌≢◌, ℕ, ◌%◌, ◌≤◌, ◌-◌, false, List, [], ◌++◌, length, replicate, slice_get, unwrap_or, Option, Some, option_map}
use Rattle.byteorder.specs.Endian.{big_bytes, big_number}
use Rattle.sha2.specs.Sha256.{sha256}
use Rattle.lz_slot.specs.{Limits.{largest_number, last_room, room_size}, Rooms.{rank}, Numerals.{number_in}}
use Rattle.lz_resp.specs.{Limits.{fewest_secret, most_argument, most_secret}, declared.naming.{Naming.{Naming, TheVariants.{Rooms, Texts}}, Selected.{Selected, TheVariants.{Room, Nameless}}}}
use Rattle.lz_resp.specs.declared.{state.State.{State}, subset.Subset.{Subset as Borrowed}}

-- a secret: zeros after it would change nothing
abbrev pub IsSecret : List ℕ → Type 0
IsSecret secret = (fewest_secret ≤ length secret) × (length secret ≤ most_secret) × (slice_get secret (length secret - 1) ≢ Some 0)

-- the block that is hashed of it
abbrev pub block_of : List ℕ → List ℕ
block_of secret = secret ++ replicate (most_secret - length secret) 0

-- the number that tells one secret from another, of its block
abbrev pub secret_number : List ℕ → ℕ
secret_number block = big_number 8 (sha256 block)

-- what is hashed before each text
abbrev pub prefix_of : Option (List ℕ) → List ℕ
prefix_of secret = unwrap_or secret []

-- A part of the set: a room, or what a name stands for in room 0, after what is hashed before it.
pub data Subset : Type 0 where
  room : ℕ → Subset
  text : List ℕ → List ℕ → Subset

abbrev pub subset_of : Borrowed → Subset
subset_of (borrowed.Room n) = room n
subset_of (borrowed.Text secret name) = text (prefix_of (option_map (λ block. block.now) secret)) name.now

-- what is selected before any command
abbrev pub selected_first : Naming → Selected
selected_first Rooms = Room 0
selected_first (Texts secret) = Nameless secret

-- the same, and nothing is refused
abbrev pub at_first : Naming → State
at_first naming = record { selected = selected_first naming; refuses = false }

-- the subset of a command that names none
abbrev pub unnamed : Selected → Subset
unnamed (Room n) = room n
unnamed (Nameless secret) = text (prefix_of (option_map (λ block. block.now) secret)) []

-- the room that an argument names
abbrev pub room_of : List ℕ → Option ℕ
room_of name = number_in 0 last_room name

-- the subset of this name
abbrev pub of_name : Selected → List ℕ → Option Subset
of_name (Room n) name = option_map room (room_of name)
of_name (Nameless secret) name = Some (text (prefix_of (option_map (λ block. block.now) secret)) name)

-- what is hashed: the length tells where the name ends
abbrev pub hashed : List ℕ → List ℕ → List ℕ → List ℕ
hashed prefix name member = prefix ++ big_bytes 8 (length name) ++ name ++ member

-- the number in room 0 of a name's member
abbrev pub text_number : List ℕ → List ℕ → List ℕ → ℕ
text_number prefix name member = big_number 8 (sha256 (hashed prefix name member)) % room_size

-- the key of a subset's member, if it is one: in room 0 a key is its number
abbrev pub key_of : Subset → List ℕ → Option ℕ
key_of (room n) member = option_map (rank n) (number_in 0 largest_number member)
key_of (text prefix name) member = Some (text_number prefix name member)

-- the room is one of those that there are
abbrev pub IsRoom : Selected → Type 0
IsRoom (Room n) = n ≤ last_room
IsRoom (Nameless secret) = Unit {0}

abbrev pub IsThere : Subset → Type 0
IsThere (room n) = n ≤ last_room
IsThere (text prefix name) = Unit {0}

-- What is hashed is of one name and one member, and of one of several prefixes that are as long.
abbrev pub HashedOnce : Type 0
HashedOnce =
    (prefix name member first other another : List ℕ) → length prefix ≡ length first → length name ≤ most_argument → length other ≤ most_argument
    → hashed prefix name member ≡ hashed first other another → (prefix ≡ first) × (name ≡ other) × (member ≡ another)

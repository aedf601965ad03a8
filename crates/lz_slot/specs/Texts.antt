-- Keys as texts: a number, after its room and a colon or, in room 0, alone.
use Rattle.std.specs.Prelude.{◌≡◌, ◌⊎◌, ◌↔◌, ℕ, ◌≤◌, ◌==◌, nat_eq, if◌then◌else◌, List, [], ◌∷◌, ◌++◌, decimal, Option, None, Some, option_map, Result, Ok, Err}
use Rattle.lz_slot.specs.{Limits.{largest_key, largest_number, last_room}, Rooms.{rank, room_of, number_of}, Numerals.{is_number, number_in}}
use Rattle.lz_slot.specs.declared.spelling.KeyFault.{KeyFault, TheVariants.{NoRoom, NoNumber, TooLarge}}

-- what parts a room from a number
abbrev pub colon : ℕ
colon = 58

-- a key with its room
abbrev pub text_with_room : ℕ → List ℕ
text_with_room k = decimal (room_of k) ++ colon ∷ decimal (number_of k)

-- a key as it is written: with its room, unless that is room 0
abbrev pub key_text : ℕ → List ℕ
key_text k = if room_of k == 0 then decimal (number_of k) else text_with_room k

-- the text spells the key
abbrev pub Spells : List ℕ → ℕ → Type 0
Spells text k = (text ≡ text_with_room k) ⊎ ((room_of k ≡ 0) × (text ≡ decimal (number_of k)))

-- the part of a text before the first of these bytes, and the part after it
abbrev pub parted : ℕ → List ℕ → Option (List ℕ × List ℕ)
parted byte [] = None
parted byte (b ∷ t) = if nat_eq byte b then Some ([], t) else option_map (λ p. (b ∷ p.0, p.1)) (parted byte t)

abbrev pub key_of_number : ℕ → Option ℕ → Result ℕ KeyFault
key_of_number room None = Err TooLarge
key_of_number room (Some number) = Ok (rank room number)

-- the key of this room whose number the text is
abbrev pub key_in : ℕ → List ℕ → Result ℕ KeyFault
key_in room text = if is_number text then key_of_number room (number_in 0 largest_number text) else Err NoNumber

abbrev pub key_behind : Option ℕ → List ℕ → Result ℕ KeyFault
key_behind None text = Err NoRoom
key_behind (Some room) text = key_in room text

abbrev pub key_of_parts : List ℕ → Option (List ℕ × List ℕ) → Result ℕ KeyFault
key_of_parts text None = key_in 0 text
key_of_parts text (Some p) = key_behind (number_in 0 last_room p.0) p.1

-- the key that a text spells
abbrev pub key_read : List ℕ → Result ℕ KeyFault
key_read text = key_of_parts text (parted colon text)

abbrev pub fault_in : List ℕ → KeyFault
fault_in text = if is_number text then TooLarge else NoNumber

abbrev pub fault_behind : Option ℕ → List ℕ → KeyFault
fault_behind None text = NoRoom
fault_behind (Some room) text = fault_in text

abbrev pub fault_of_parts : List ℕ → Option (List ℕ × List ℕ) → KeyFault
fault_of_parts text None = fault_in text
fault_of_parts text (Some p) = fault_behind (number_in 0 last_room p.0) p.1

-- why a text spells no key: no room before its first colon, no number after it or, without a colon, in the whole text, and
-- last a number that is too large
abbrev pub key_fault : List ℕ → KeyFault
key_fault text = fault_of_parts text (parted colon text)

-- a text is read as a key exactly where it spells the key
abbrev pub KeysReadBack : Type 0
KeysReadBack = (text : List ℕ) (k : ℕ) → (key_read text ≡ Ok k) ↔ ((k ≤ largest_key) × Spells text k)

-- a text that spells no key is refused by the first test that it fails
abbrev pub KeysAreRefused : Type 0
KeysAreRefused = (text : List ℕ) (fault : KeyFault) → key_read text ≡ Err fault → key_fault text ≡ fault

-- what is written of a key spells it
abbrev pub WrittenKeysAreSpelled : Type 0
WrittenKeysAreSpelled = (k : ℕ) → Spells (key_text k) k

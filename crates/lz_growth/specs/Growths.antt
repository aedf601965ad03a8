-- Files that grow in place: what one holds, and what more slots make of it.
use Rattle.std.specs.Prelude.{◌≡◌, ◌⊎◌, ℕ, ◌+◌, ◌-◌, ◌*◌, ◌^◌, ◌/◌, ◌%◌, ◌≤◌, ◌<◌, List, ◌∷◌, ◌++◌, length, take, replicate, slice_range}
use Rattle.byteorder.specs.Endian.{big_bytes}
use Rattle.lz_slot.specs.{Limits.{most_slots}, Sets.{Keys}, Bytes.{Holds, header_body, open_byte}}
use Rattle.lz_slot.specs.declared.format.Format.TheVariants.{Four}
use Rattle.lz_disk.specs.Images.{Medium, IsImage, at_rest}

-- the head of a file that grows: an open gate, `LZYSET5`, and its number of slots
abbrev pub growing_head : ℕ → List ℕ
growing_head N = open_byte ∷ 0x4c ∷ 0x5a ∷ 0x59 ∷ 0x53 ∷ 0x45 ∷ 0x54 ∷ 0x35 ∷ big_bytes 8 N

-- the length that so many slots take
abbrev pub room_for : ℕ → ℕ
room_for N = 16 + 16 * N

-- What the text shows of N slots: a file of format 4 with these slots, whatever the text's head is and whatever comes after them.
abbrev pub shown : ℕ → List ℕ → List ℕ
shown N t = (open_byte ∷ header_body Four N) ++ slice_range t 16 (room_for N)

-- The text is a file that grows, of N slots, that holds the set S. What lies after its slots is ignored.
pub record HoldsGrowing (t : List ℕ) (N : ℕ) (S : Keys) : Type 0 where
  pub long : room_for N ≤ length t
  pub head : take 16 t ≡ growing_head N
  pub slots : Holds (shown N t) N S

-- two numbers differ in this byte at most, counted from the lowest
abbrev pub IsAlikeBut : ℕ → ℕ → ℕ → Type 0
IsAlikeBut byte a b = (a % 256 ^ byte ≡ b % 256 ^ byte) × (a / 256 ^ (byte + 1) ≡ b / 256 ^ (byte + 1))

-- a file of `from` slots can be raised to `to` by one byte of its head
pub record IsRaise (from to : ℕ) : Type 0 where
  pub some : 1 ≤ from
  pub more : from < to
  pub few : to ≤ most_slots
  pub apart : (byte : ℕ) × (byte < 8) × IsAlikeBut byte from to

-- a file that grows is there, of N slots
pub record IsRaisable (seen : List ℕ) (N : ℕ) : Type 0 where
  pub long : room_for N ≤ length seen
  pub head : take 16 seen ≡ growing_head N

-- whatever set the one text holds, the other one holds it too, with as many slots or with more
abbrev pub IsRaisedOrNot : ℕ → ℕ → List ℕ → List ℕ → Type 0
IsRaisedOrNot from to old new = (S : Keys) → HoldsGrowing old from S → HoldsGrowing new from S ⊎ HoldsGrowing new to S

-- The medium's text holds what the old one held, with more slots, and nothing of it is loose.
pub record IsRaised (old : List ℕ) (from to : ℕ) (disk : Medium) : Type 0 where
  pub sure : disk ≡ at_rest disk.bytewise disk.seen
  pub holds : (S : Keys) → HoldsGrowing old from S → HoldsGrowing disk.seen to S
  pub slots : slice_range disk.seen 16 (room_for from) ≡ slice_range old 16 (room_for from)
  pub zeros : slice_range disk.seen (room_for from) (room_for to) ≡ replicate (16 * (to - from)) 0

-- The medium's text, and whatever a crash leaves of it, holds what the old one held, with as many slots.
pub record IsNotRaised (old : List ℕ) (N : ℕ) (disk : Medium) : Type 0 where
  pub seen : (S : Keys) → HoldsGrowing old N S → HoldsGrowing disk.seen N S
  pub left : (c : List ℕ) → IsImage disk c → (S : Keys) → HoldsGrowing old N S → HoldsGrowing c N S

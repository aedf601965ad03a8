-- What the head of a file says of a file that grows.
use Rattle.std.specs.Prelude.{◌≡◌, ◌≢◌, ◌⊎◌, ℕ, ◌≤◌, ◌<◌, List, [], ◌∷◌, length, slice_range}
use Rattle.byteorder.specs.Endian.{big_number}
use Rattle.lz_slot.specs.{Limits.{most_slots}, Bytes.{IsMade}}
use Rattle.lz_growth.specs.{Growths.{room_for}, declared.head.HeadFault.{HeadFault, TheVariants.{NotMade, WrongMagic, BadCount, WrongLength, Device}}}

-- `LZYSET5`
abbrev pub growing_name : List ℕ
growing_name = 0x4c ∷ 0x5a ∷ 0x59 ∷ 0x53 ∷ 0x45 ∷ 0x54 ∷ 0x35 ∷ []

-- the number of slots that a head says
abbrev pub slots_said : List ℕ → ℕ
slots_said t = big_number 8 (slice_range t 8 16)

-- the text has an open gate and the name of a file that grows
abbrev pub IsNamed : List ℕ → Type 0
IsNamed t = IsMade t × (slice_range t 1 8 ≡ growing_name)

-- why a text is no file that grows: each fault says exactly what is wrong with it
abbrev pub IsHeadFaultOf : List ℕ → HeadFault → Type 0
IsHeadFaultOf t NotMade = IsMade t → ⊥
IsHeadFaultOf t WrongMagic = IsMade t × (slice_range t 1 8 ≢ growing_name)
IsHeadFaultOf t BadCount = IsNamed t × ((slots_said t ≡ 0) ⊎ (most_slots < slots_said t))
IsHeadFaultOf t WrongLength = IsNamed t × (1 ≤ slots_said t) × (slots_said t ≤ most_slots) × (length t < room_for (slots_said t))
IsHeadFaultOf t Device = Unit {0}

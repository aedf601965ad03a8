-- The slots of format 4: each byte is four bits of the rank and, below them, their complement. None of them is zero.
use Rattle.std.specs.Prelude.{◌≡◌, ◌⊎◌, ℕ, zero, suc, ◌+◌, ◌-◌, ◌*◌, ◌/◌, ◌%◌, ◌^◌, ◌<◌, Bool, true, ◌&&◌, ◌==◌, nat_le, List, [], ◌∷◌, length, slice_index, replicate, if◌then◌else◌}
use Rattle.std.specs.List.{list_all, list_any}
use Rattle.byteorder.specs.Endian.{big_number, big_bytes}
use Rattle.lz_slot.specs.{Limits.{largest_key}, declared.slot.SlotRead.{SlotRead, TheVariants.{Closed, Torn, Member, BadKey}}}

-- the bytes of which each spells half a byte of these: 15 * (h + 1) is 16 * h and, below it, 15 - h
abbrev pub spelled : List ℕ → List ℕ
spelled [] = []
spelled (b ∷ bytes) = 15 * (b / 16 + 1) ∷ 15 * (b % 16 + 1) ∷ spelled bytes

-- the bytes that these spell, two and two
abbrev pub spells : List ℕ → List ℕ
spells [] = []
spells (x ∷ []) = []
spells (x ∷ y ∷ bytes) = (16 * (x / 16) + y / 16) ∷ spells bytes

-- the sixteen bytes of a slot that holds this key
abbrev pub whole_slot : ℕ → List ℕ
whole_slot k = spelled (big_bytes 8 k)

-- four bits and their complement
abbrev pub is_paired : ℕ → Bool
is_paired b = b / 16 + b % 16 == 15

-- a slot is closed where one of its bytes is zero
abbrev pub is_shut : List ℕ → Bool
is_shut bytes = list_any (λ b. b == 0) bytes

-- what the sixteen bytes of a slot say: a closed one that isn't all zeros was being written at a crash
abbrev pub whole_read : List ℕ → SlotRead
whole_read bytes =
    if is_shut bytes then (if list_all (λ b. b == 0) bytes then Closed else Torn)
    else if list_all is_paired bytes && nat_le (big_number 8 (spells bytes)) largest_key then Member (big_number 8 (spells bytes))
    else BadKey

-- each byte of a text is zero or the other's
abbrev pub IsPartOf : List ℕ → List ℕ → Type 0
IsPartOf t whole = (length t ≡ length whole) × ((i : ℕ) → i < length whole → (slice_index t i ≡ 0) ⊎ (slice_index t i ≡ slice_index whole i))

-- each mixture of zeros with a key's slot is closed, or is that slot
abbrev pub MixturesAreWhole : Type 0
MixturesAreWhole = (k : ℕ) (t : List ℕ) → IsPartOf t (whole_slot k) → (is_shut t ≡ true) ⊎ (t ≡ whole_slot k)

-- and each mixture of zeros with a closed slot is closed, whatever its bytes are
abbrev pub ShutStaysShut : Type 0
ShutStaysShut = (bytes t : List ℕ) → IsPartOf t bytes → is_shut bytes ≡ true → is_shut t ≡ true

-- a byte with one of its bits turned
abbrev pub flipped : ℕ → ℕ → ℕ
flipped bit byte = if (byte / 2 ^ bit) % 2 == 0 then byte + 2 ^ bit else byte - 2 ^ bit

-- bytes with one bit of one of them turned
abbrev pub with_flip : List ℕ → ℕ → ℕ → List ℕ
with_flip [] at bit = []
with_flip (x ∷ bytes) zero bit = flipped bit x ∷ bytes
with_flip (x ∷ bytes) (suc at) bit = x ∷ with_flip bytes at bit

-- one bit turned in a key's slot makes it no key's, and in one that is closed it makes no key
abbrev pub FlipsAreNoKeys : Type 0
FlipsAreNoKeys =
    (k at bit : ℕ) → at < 16 → bit < 8
    → (whole_read (with_flip (whole_slot k) at bit) ≡ BadKey) × (whole_read (with_flip (replicate 16 0) at bit) ≡ Torn)

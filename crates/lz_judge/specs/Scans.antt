-- What a scan of slots knows when it has come to slot n.
use Rattle.lz_slot.specs.declared.slot.SlotRead.TheVariants as read
use Rattle.std.specs.Prelude.{◌≡◌, ℕ, ◌+◌, ◌*◌, ◌/◌, ◌<◌, ◌≤◌, All, Bool, true, false, List, [], ◌∷◌, ◌++◌, length, map, take, Option, Ok}
use Rattle.std.specs.Io.KnownBytes.{Consumes, IsAtEnd}
use Rattle.lz_slot.specs.{Bytes.{format_of, header_body, header_read, of_size, open_byte, slot_at}, declared.{format.Format.{Format}, header.Header.{Header}}}
use Rattle.lz_slot.specs.declared.slot.SlotRead.{SlotRead}
use Rattle.lz_judge.specs.{declared.{finding.Finding.{Finding, TheVariants.{Key, BadKey, Twice}}, scan.Scan.{Scan}}, Surveys.{open_slots, slot_of}}

-- what was met at a slot is what it holds
abbrev pub IsMet : (ℕ → SlotRead) → Finding → Type 0
IsMet says (Key i k) = says i ≡ read.Member k
IsMet says (BadKey i) = says i ≡ read.BadKey
IsMet says (Twice i first) = ⊥

-- one was met for each open slot below n, upwards
pub record AreMet (says : ℕ → SlotRead) (n : ℕ) (met : List Finding) : Type 0 where
  pub each : All (IsMet says) met
  pub slots : map slot_of met ≡ open_slots says n

-- the slots below n were taken
abbrev pub Scanned : (ℕ → SlotRead) → ℕ → Scan → Type 0
Scanned says n scan = AreMet says n scan.met.items

-- the piece is what a file has from slot n on, as far as it goes
pub record IsPieceAt (t : List ℕ) (n : ℕ) (piece : List ℕ) : Type 0 where
  pub front : List ℕ
  pub rest : List ℕ
  pub whole : t ≡ (front ++ piece) ++ rest
  pub size : length front ≡ 16 + 16 * n

-- the text begins with a head that says this
pub record BeginsWith (header : Header) (text : List ℕ) : Type 0 where
  pub long : 16 ≤ length text
  pub bytes : take 16 text ≡ open_byte ∷ header_body header.format header.slots
  pub format : header.format ≡ format_of text
  pub slots : (size : ℕ) → 16 ≤ size → header_read text size ≡ of_size size (Ok header.slots)

-- The reader gave the whole piece, and what its slots say was taken.
pub record GivesPiece (format : Format) (first : ℕ) (piece : List ℕ) (old new : Scan) (before after : Option (List ℕ)) : Type 0 where
  pub given : Consumes before after piece
  pub taken : (t : List ℕ) → format ≡ format_of t → IsPieceAt t first piece → Scanned (slot_at t) first old → Scanned (slot_at t) (first + length piece / 16) new

-- The reader ended before a piece of this length did.
pub record EndsWithin (size : ℕ) (before after : Option (List ℕ)) : Type 0 where
  pub part : List ℕ
  pub short : length part < size
  pub given : Consumes before after part
  pub ended : IsAtEnd after

-- a piece was taken, or there was no whole one
abbrev pub TakesPiece : Bool → Format → ℕ → List ℕ → Scan → Scan → Option (List ℕ) → Option (List ℕ) → Type 0
TakesPiece true format first piece old new before after = GivesPiece format first piece old new before after
TakesPiece false format first piece old new before after = EndsWithin (length piece) before after

-- whether the reader had another byte
abbrev pub HadMore : Bool → Option (List ℕ) → Option (List ℕ) → Type 0
HadMore true before after = (byte : ℕ) × Consumes before after (byte ∷ [])
HadMore false before after = IsAtEnd before

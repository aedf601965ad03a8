-- What a list of keys is: lines that end, each of which names a key. A text is a list of bytes.
use Rattle.std.specs.{Prelude.{◌≡◌, ◌≢◌, ◌⊎◌, ℕ, ◌+◌, ◌<◌, ◌≤◌, false, true, nat_eq, List, [], ◌∷◌, ◌++◌, length, slice_index, take, IsTrue, Option, option_map}, List.{IsDistinct}}
use Rattle.lz_slot.specs.{Limits.{last_room}, Rooms.{largest_of, last_room_of}, Sets.{members}, Texts.{Spells}, declared.format.Format.{Format}}
use Rattle.lz_proto.specs.Lines.{has_line_feed, line_feed, without_return}
use Rattle.lz_resp.specs.{Keys.{prefix_of, text_number}, Limits.{most_argument}}
use Rattle.lz_scan_client.specs.Told.{AreOnce}
use Rattle.lazyset_file_commands.specs.{Marks.{marks_of}, declared.{lines.Lines.{Lines, TheVariants.{Keys, Texts}}, list.ListFault.{ListFault}}}
use Rattle.lazyset_file_commands.specs.declared.list.ListFault.TheVariants.{Line, Twice, Read, Memory}

-- What lines name: keys of a format, each of them once, or members of the set of texts with this name, which may come again, under the secret of this
-- block or under none.
pub data Named : Type 0 where
  keys : Format → Named
  texts : Option (List ℕ) → List ℕ → Named

abbrev pub named_by : Format → Lines → Named
named_by format Keys = keys format
named_by format (Texts secret name) = texts (option_map (λ block. block.now) secret) name.now

-- a file of this format has a place for each key that lines may name, and for the marks
abbrev pub HasPlaceFor : Format → Lines → Type 0
HasPlaceFor format Keys = Unit {0}
HasPlaceFor format (Texts secret name) = last_room_of format ≡ last_room

-- The line names this key. As a key it is spelled, less one carriage return at the end, and a file of this format can hold it. A text is all of
-- the line, as long as a service takes it.
abbrev pub NamesKey : Named → List ℕ → ℕ → Type 0
NamesKey (keys format) line k = (k ≤ largest_of format) × Spells (without_return line) k
NamesKey (texts secret name) line k = (length line ≤ most_argument) × (k ≡ text_number (prefix_of secret) name line)

-- The text is whole lines that name these keys, one a line, in their order.
pub data Spelled (named : Named) : List ℕ → List ℕ → Type 0 where
  nothing : Spelled named [] []
  more : (line rest : List ℕ) (k : ℕ) (ks : List ℕ)
      → has_line_feed line ≡ false → NamesKey named line k → Spelled named rest ks → Spelled named (line ++ line_feed ∷ rest) (k ∷ ks)

-- These are the keys of a file of which lines name those, in that order: no key stands in two lines, or the marks are first and each key of a text
-- there once.
abbrev pub AreKeysOf : Named → List ℕ → List ℕ → Type 0
AreKeysOf (keys format) told ks = (told ≡ ks) × IsDistinct nat_eq ks
AreKeysOf (texts secret name) told ks = AreOnce (marks_of secret ++ told) ks × ((rest : List ℕ) × (ks ≡ marks_of secret ++ rest))

-- The text lists these keys.
pub record Lists (named : Named) (text ks : List ℕ) : Type 0 where
  pub told : List ℕ
  pub spelled : Spelled named text told
  pub all : AreKeysOf named told ks

-- this is the first line of the text, and it ends
abbrev pub HasFirstLine : List ℕ → List ℕ → Type 0
HasFirstLine text line = (has_line_feed line ≡ false) × ((rest : List ℕ) × (text ≡ line ++ line_feed ∷ rest))

-- there is more text, and it has no first line that ends and names a key
abbrev pub HasNoKey : Named → List ℕ → Type 0
HasNoKey named text = (text ≢ []) × ((line : List ℕ) (k : ℕ) → HasFirstLine text line → ¬ NamesKey named line k)

-- the first line of the text spells one of these keys
abbrev pub HasKeyOf : Named → List ℕ → List ℕ → Type 0
HasKeyOf (keys format) ks text = (line : List ℕ) × (k : ℕ) × HasFirstLine text line × NamesKey (keys format) line k × IsTrue (members ks k)
HasKeyOf (texts secret name) ks text = ⊥

-- The lines of the text above this one, counted from 1, list keys, after which the rest of the text is at fault.
pub record FailsAt (named : Named) (text : List ℕ) (number : ℕ) (IsAtFault : List ℕ → List ℕ → Type 0) : Type 0 where
  pub above : List ℕ
  pub rest : List ℕ
  pub whole : text ≡ above ++ rest
  pub ks : List ℕ
  pub lists : Lists named above ks
  pub place : number ≡ length lists.told + 1
  pub fault : IsAtFault ks rest

-- why a text lists no keys: its first line at fault names no key, or one that stands in a line above
abbrev pub IsListFaultOf : Named → List ℕ → ListFault → Type 0
IsListFaultOf named text (Line number) = FailsAt named text number (λ ks rest. HasNoKey named rest)
IsListFaultOf named text (Twice number) = FailsAt named text number (HasKeyOf named)
IsListFaultOf named text Read = Unit {0}
IsListFaultOf named text Memory = Unit {0}

-- the key at this index is the first that stands above it too
pub record IsFirstAgain (ks : List ℕ) (i : ℕ) : Type 0 where
  pub low : i < length ks
  pub apart : IsDistinct nat_eq (take i ks)
  pub again : IsTrue (members (take i ks) (slice_index ks i))

-- no key stands in two lines, where none may
abbrev pub AreApart : Named → List ℕ → Type 0
AreApart (keys format) ks = IsDistinct nat_eq ks
AreApart (texts secret name) ks = Unit {0}

-- why these keys of lines, one a line, are no list: the key of the line of this number stands in a line above
abbrev pub TellsAgain : Named → List ℕ → ListFault → Type 0
TellsAgain named ks (Line number) = ⊥
TellsAgain (keys format) ks (Twice number) = (i : ℕ) × (number ≡ i + 1) × IsFirstAgain ks i
TellsAgain (texts secret name) ks (Twice number) = ⊥
TellsAgain named ks Read = ⊥
TellsAgain named ks Memory = Unit {0}

-- the first fault of lines of these keys with this one after them
abbrev pub IsFaultAfter : Named → List ℕ → ListFault → ListFault → Type 0
IsFaultAfter named ks after fault = ((fault ≡ after) × AreApart named ks) ⊎ TellsAgain named ks fault

-- the key of a text is added to these, or was one of them
abbrev pub AddsText : ℕ → List ℕ → List ℕ → Type 0
AddsText k old new = ((members old k ≡ true) × (new ≡ old)) ⊎ ((members old k ≡ false) × (new ≡ old ++ k ∷ []))

-- the key of a line is added to these
abbrev pub Adds : Named → ℕ → List ℕ → List ℕ → Type 0
Adds (keys format) k old new = new ≡ old ++ k ∷ []
Adds (texts secret name) k old new = AddsText k old new

pub record AddsKey (named : Named) (line old new : List ℕ) : Type 0 where
  pub key : ℕ
  pub names : NamesKey named line key
  pub adds : Adds named key old new

-- why the key of the line of this number wasn't added to these
abbrev pub IsLineFaultOf : Named → ℕ → List ℕ → List ℕ → ListFault → Type 0
IsLineFaultOf named number line ks (Line place) = (place ≡ number) × ((k : ℕ) → ¬ NamesKey named line k) × AreApart named ks
IsLineFaultOf named number line ks (Twice place) = TellsAgain named ks (Twice place)
IsLineFaultOf named number line ks Read = ⊥
IsLineFaultOf named number line ks Memory = Unit {0}

-- A list of keys that is read in pieces.
use Rattle.std.specs.Prelude.{◌≡◌, ℕ, ◌+◌, false, List, [], ◌++◌, Some, length, map}
use Rattle.lz_judge.specs.{Places.{IsTable}, declared.places.Places.{Places}}
use Rattle.lz_proto.specs.Lines.{has_line_feed}
use Rattle.lazyset_file_commands.specs.Lists.{AreKeysOf, HasPlaceFor, IsListFaultOf, Lists, Named, keys, texts, Spelled, named_by}
use Rattle.lazyset_file_commands.specs.declared.{lines.Lines.{Lines, TheVariants.{Keys, Texts}}, list.{KeyList.{KeyList}, ListFault.{ListFault}}}

-- what the lines of a list name
abbrev pub named_in : KeyList → Named
named_in list = named_by list.format list.lines

-- the keys so far of lines that name those
abbrev pub AreSoFar : Named → List ℕ → List ℕ → Type 0
AreSoFar (keys format) told ks = told ≡ ks
AreSoFar (texts secret name) told ks = AreKeysOf (texts secret name) told ks

-- The text is whole lines, of which these are the keys so far: a key may stand in two of them.
pub record Reads (named : Named) (text ks : List ℕ) : Type 0 where
  pub told : List ℕ
  pub spelled : Spelled named text told
  pub all : AreSoFar named told ks

-- of keys that may come again this is the table
abbrev pub HasTable : Lines → List ℕ → Places → Type 0
HasTable Keys ks seen = Unit {0}
HasTable (Texts secret name) ks seen = IsTable (map Some ks) seen

-- Of the text this much is left, which begins with the line of this number, and the part before it has these keys.
pub record Leaves (named : Named) (text rest ks : List ℕ) (number : ℕ) : Type 0 where
  pub above : List ℕ
  pub whole : text ≡ above ++ rest
  pub lists : Reads named above ks
  pub place : number ≡ length lists.told + 1

-- of the text, of which this much comes after what the list has read, the lines before its own have its keys
abbrev pub HasRead : List ℕ → KeyList → List ℕ → Type 0
HasRead text list after = Leaves (named_in list) text (list.line.items ++ after) list.keys.items list.number

-- the keys are those of some lines, with their table where they have one, and the next line hasn't ended
pub record IsOpenList (list : KeyList) : Type 0 where
  pub place : HasPlaceFor list.format list.lines
  pub seen : HasTable list.lines list.keys.items list.seen
  pub clear : has_line_feed list.line.items ≡ false
  pub above : List ℕ
  pub lists : Reads (named_in list) above list.keys.items

-- nothing of any text was read
abbrev pub IsUnread : KeyList → Type 0
IsUnread list = (text : List ℕ) → HasRead text list text

-- a list of the same format and lines
abbrev pub IsLike : KeyList → KeyList → Type 0
IsLike old new = (new.format ≡ old.format) × (new.lines ≡ old.lines)

-- the piece was read of each text that goes on with it
pub record GoesOn (old : KeyList) (piece : List ℕ) (new : KeyList) : Type 0 where
  pub same : IsLike old new
  pub read : (text after : List ℕ) → HasRead text old (piece ++ after) → HasRead text new after

-- each text that goes on with the piece has this fault
abbrev pub FailsIn : KeyList → List ℕ → ListFault → Type 0
FailsIn list piece fault = (text after : List ℕ) → HasRead text list (piece ++ after) → IsListFaultOf (named_in list) text fault

-- each text that ends here lists these keys, or has this fault
abbrev pub EndsWith : KeyList → List ℕ → Type 0
EndsWith list ks = (text : List ℕ) → HasRead text list [] → Lists (named_in list) text ks

abbrev pub FailsAtEnd : KeyList → ListFault → Type 0
FailsAtEnd list fault = (text : List ℕ) → HasRead text list [] → IsListFaultOf (named_in list) text fault

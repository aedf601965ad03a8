-- What lines ask for. A text is a list of bytes.
use Rattle.lz_slot.specs.declared.spelling.KeyFault.TheVariants as key
use Rattle.std.specs.Prelude.{◌≡◌, ◌≢◌, ℕ, ◌≤◌, Bool, false, ◌&&◌, ◌==◌, ◌-◌, take, nat_lt, nat_eq, if◌then◌else◌, Result, Ok, Err, slice_index, List, [], ◌∷◌}
use Rattle.std.specs.{Prelude.{◌++◌, length, drop, codes}, List.{list_any, starts_with}}
use Rattle.lz_slot.specs.{Limits.{largest_key}, Texts.{key_fault, Spells}, declared.spelling.KeyFault.{KeyFault}}
use Rattle.lz_proto.specs.{Limits.{most_line}, declared.{request.Request.{Request, TheVariants.{Add, Remove, Has, Quit}}, fault.Bad.{Bad}}}
use Rattle.lz_proto.specs.declared.{fault.Bad.TheVariants.{TooLong, NoCommand, NoNumber, KeyTooLarge, NoEnd, BadRoom}, item.Item.{Item}}
use Rattle.lz_proto.specs.declared.item.Item.TheVariants.{Asks, Faulty}

abbrev pub line_feed : ℕ
line_feed = 10

abbrev pub carriage_return : ℕ
carriage_return = 13

-- a line less one CR at its end
abbrev pub without_return : List ℕ → List ℕ
without_return line =
    if nat_lt 0 (length line) && (slice_index line (length line - 1) == carriage_return) then take (length line - 1) line
    else line

-- the line is this word and a spelling of the key
abbrev pub Names : List ℕ → List ℕ → ℕ → Type 0
Names line word k = (k ≤ largest_key) × ((text : List ℕ) × Spells text k × (line ≡ word ++ text))

-- a line less its carriage return is this request
abbrev pub IsRequestText : List ℕ → Request → Type 0
IsRequestText line (Add k) = Names line (codes "add ") k
IsRequestText line (Remove k) = Names line (codes "remove ") k
IsRequestText line (Has k) = Names line (codes "has ") k
IsRequestText line Quit = line ≡ codes "quit"

-- the line is this request
abbrev pub IsRequest : List ℕ → Request → Type 0
IsRequest line request = IsRequestText (without_return line) request

-- where the text after a command's word and one space begins, or 0 where there is no such word
abbrev pub word_end : List ℕ → ℕ
word_end line =
    if starts_with nat_eq line (codes "add ") then 4
    else if starts_with nat_eq line (codes "remove ") then 7
    else if starts_with nat_eq line (codes "has ") then 4
    else 0

-- the fault of a line by that of its key
abbrev pub bad_of : KeyFault → Bad
bad_of key.NoRoom = BadRoom
bad_of key.NoNumber = NoNumber
bad_of key.TooLarge = KeyTooLarge

-- the fault of a line that is no request, by the first test that it fails
abbrev pub fault_of_body : List ℕ → Bad
fault_of_body line =
    if nat_lt most_line (length line) then TooLong
    else if word_end line == 0 then NoCommand
    else bad_of (key_fault (drop (word_end line) line))

abbrev pub fault_of : List ℕ → Bad
fault_of line = fault_of_body (without_return line)

-- what a line without LF asks for
abbrev pub IsItem : List ℕ → Item → Type 0
IsItem line (Asks request) = IsRequest line request
IsItem line (Faulty bad) = ((request : Request) → ¬ IsRequest line request) × (fault_of line ≡ bad)

-- what reading a line gave, as an item
abbrev pub item_of : Result Request Bad → Item
item_of (Ok request) = Asks request
item_of (Err bad) = Faulty bad

-- the number by which a reply tells a fault
abbrev pub bad_number : Bad → ℕ
bad_number TooLong = 1
bad_number NoCommand = 2
bad_number NoNumber = 3
bad_number KeyTooLarge = 4
bad_number NoEnd = 5
bad_number BadRoom = 6

abbrev pub has_line_feed : List ℕ → Bool
has_line_feed t = list_any (nat_eq line_feed) t

-- The items of a whole text: one for each line that ends, and a fault for what stands after the last one. None come after `quit`.
pub data Items : List ℕ → List Item → Type 0 where
  nothing : Items [] []
  no_end : (t : List ℕ) → t ≢ [] → has_line_feed t ≡ false → Items t (Faulty NoEnd ∷ [])
  line : (t : List ℕ) (item : Item) (rest : List ℕ) (items : List Item)
      → has_line_feed t ≡ false → IsItem t item → item ≢ Asks Quit → Items rest items
      → Items (t ++ line_feed ∷ rest) (item ∷ items)
  quits : (t rest : List ℕ) → has_line_feed t ≡ false → IsItem t (Asks Quit) → Items (t ++ line_feed ∷ rest) (Asks Quit ∷ [])

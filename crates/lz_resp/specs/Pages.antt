-- Pages of members, as a client reads them.
use Rattle.std.specs.Prelude.{◌≡◌, ℕ, zero, suc, ◌==◌, ◌≤◌, if◌then◌else◌, List, [], ◌∷◌, ◌++◌, nat_le, true, IfSome, codes, decimal, filter, length, map}
use Rattle.std.specs.{Prelude.{Option, None, Some, Ok, Err}, List.{flat_map, list_all}}
use Rattle.lz_slot.specs.{Limits.{largest_key, most_slots}, Numerals.{number_in}}
use Rattle.lz_resp.specs.{Frames.{bulk, line_end, star}, Limits.{most_listed, most_arguments}, Reading.{Front, and_then, line_at, argument_at}}
use Rattle.lz_resp.specs.{Scans.{cursor_of, is_in, page_text, told_of}, declared.fault.Fault.{Fault, TheVariants.{Count}}}

-- what asks for the page of all rooms from this cursor on
abbrev pub request_text : ℕ → List ℕ
request_text cursor = codes "LZ.SCAN " ++ decimal cursor ++ codes " COUNT 256\r\n"

-- a number as a bulk string
abbrev pub number_text : ℕ → List ℕ
number_text number = bulk (decimal number)

-- the reply that tells the cursor to go on with, and the numbers of a page's members
abbrev pub told_text : ℕ → List ℕ → List ℕ
told_text next numbers =
    codes "*2\r\n" ++ number_text next ++ codes "*" ++ decimal (length numbers) ++ line_end ++ flat_map number_text numbers

-- a page within the limits that each service keeps
pub record IsPage (next : ℕ) (numbers : List ℕ) : Type 0 where
  pub cursor : next ≤ most_slots
  pub few : length numbers ≤ most_arguments
  pub small : list_all (λ number. nat_le number largest_key) numbers ≡ true

-- what is told of those keys that are in the room
abbrev pub numbers_in : Option ℕ → List ℕ → List ℕ
numbers_in room keys = map (told_of room) (filter (is_in room) keys)

-- What is read. All faults are told alike: of what is no number, too.
abbrev pub counted : Option ℕ → List ℕ → Front ℕ
counted None rest = Err Count
counted (Some number) rest = Ok (Some (number, rest))

-- what follows a star
abbrev pub count_at : List ℕ → Front ℕ
count_at text = and_then (line_at Count text) (λ digits rest. counted (number_in 0 most_arguments digits) rest)

-- the number of arguments of an array
abbrev pub heading_at : List ℕ → Front ℕ
heading_at [] = Ok None
heading_at (b ∷ text) = if b == star then count_at text else Err Count

-- a number up to this one, as a bulk string
abbrev pub number_at : ℕ → List ℕ → Front ℕ
number_at high text = and_then (argument_at text) (λ argument rest. counted (number_in 0 high argument) rest)

-- so many numbers
abbrev pub numbers_at : ℕ → List ℕ → Front (List ℕ)
numbers_at zero text = Ok (Some ([], text))
numbers_at (suc n) text =
    and_then (number_at largest_key text) (λ number rest. and_then (numbers_at n rest) (λ numbers after. Ok (Some (number ∷ numbers, after))))

-- an array of numbers
abbrev pub members_at : List ℕ → Front (List ℕ)
members_at text = and_then (heading_at text) numbers_at

-- the cursor and the members
abbrev pub parts_at : List ℕ → Front (ℕ × List ℕ)
parts_at text =
    and_then (number_at most_slots text) (λ next rest. and_then (members_at rest) (λ numbers after. Ok (Some ((next, numbers), after))))

abbrev pub page_of : ℕ → List ℕ → Front (ℕ × List ℕ)
page_of n text = if n == 2 then parts_at text else Err Count

-- the page at the front of a text
abbrev pub page_at : List ℕ → Front (ℕ × List ℕ)
page_at text = and_then (heading_at text) page_of

-- A page is read wherever one stands, whatever follows it.
abbrev pub PagesAreRead : Type 0
PagesAreRead =
    (next : ℕ) (numbers rest : List ℕ) → IsPage next numbers → page_at (told_text next numbers ++ rest) ≡ Ok (Some ((next, numbers), rest))

-- What is read is a page, each byte of it.
abbrev pub PagesAreSpelled : Type 0
PagesAreSpelled =
    (text rest numbers : List ℕ) (next : ℕ) → page_at text ≡ Ok (Some ((next, numbers), rest))
    → (text ≡ told_text next numbers ++ rest) × IsPage next numbers

-- Where a fault is told no page stands, however the text goes on.
abbrev pub FaultsHaveNoPage : Type 0
FaultsHaveNoPage =
    (text more rest numbers : List ℕ) (next : ℕ) (fault : Fault) → page_at text ≡ Err fault → IsPage next numbers
    → text ++ more ≡ told_text next numbers ++ rest → ⊥

-- What the service tells of a page is read as the cursor and the room's members, or all members by their ranks.
abbrev pub PagesAreToldAndRead : Type 0
PagesAreToldAndRead =
    (room : Option ℕ) (keys rest : List ℕ) (next : Option ℕ) → length keys ≤ most_listed → IfSome next (λ slot. slot ≤ most_slots)
    → (room ≡ None → list_all (λ key. nat_le key largest_key) keys ≡ true)
    → page_at (page_text room keys next ++ rest) ≡ Ok (Some ((cursor_of next, numbers_in room keys), rest))

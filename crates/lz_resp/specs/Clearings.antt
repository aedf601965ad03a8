-- A client that clears a room: what it asks next, by what it was told.
use Rattle.std.specs.Prelude.{◌≡◌, ℕ, ◌==◌, ◌+◌, if◌then◌else◌, List, [], ◌∷◌, ◌++◌, length, codes, decimal}
use Rattle.std.specs.{Prelude.{Ok, Err, None, Some}, List.{flat_map}}
use Rattle.lz_slot.specs.{Limits.{most_slots}, Numerals.{number_in}}
use Rattle.lz_resp.specs.{Frames.{line_end}, Pages.{counted, number_text, page_at}, Reading.{Front, and_then, line_at}}
use Rattle.lz_resp.specs.declared.{clearing.Awaits.{Awaits, TheVariants.{Page, Count, Nothing}}, fault.Fault.TheVariants.{Count as NoCount}}

-- The room; what it awaits; how many keys were removed; what was told and makes no whole reply yet; and what is still to be sent.
pub record Sweep : Type 0 where
  pub room : ℕ
  pub awaits : Awaits
  pub removed : ℕ
  pub heard : List ℕ
  pub asks : List ℕ

-- what asks for the page of a room from this cursor on
abbrev pub room_text : ℕ → ℕ → List ℕ
room_text room cursor = codes "SSCAN " ++ decimal room ++ codes " " ++ decimal cursor ++ codes " COUNT 256\r\n"

-- what asks for the removal of these keys of a room
abbrev pub removal_text : ℕ → List ℕ → List ℕ
removal_text room numbers =
    codes "*" ++ decimal (length numbers + 2) ++ codes "\r\n$4\r\nSREM\r\n" ++ number_text room ++ flat_map number_text numbers

-- nothing was told yet
abbrev pub begun : ℕ → Sweep
begun room = record { room = room; awaits = Page; removed = 0; heard = []; asks = room_text room 0 }

-- the page from this cursor on is next; 0 is the end
abbrev pub going_on : ℕ → Sweep → Sweep
going_on next s = if next == 0 then record s { awaits = Nothing; asks = [] } else record s { awaits = Page; asks = room_text s.room next }

-- the keys of a page are to be removed, if it has any
abbrev pub asking : ℕ → List ℕ → Sweep → Sweep
asking next [] s = going_on next s
asking next (number ∷ numbers) s = record s { awaits = Count next; asks = removal_text s.room (number ∷ numbers) }

-- an integer
abbrev pub integer_at : List ℕ → Front ℕ
integer_at [] = Ok None
integer_at (b ∷ text) = if b == 58 then and_then (line_at NoCount text) (λ digits rest. counted (number_in 0 most_slots digits) rest) else Err NoCount

-- this page was told, or no whole one
abbrev pub HearsPage : Front (ℕ × List ℕ) → Sweep → Sweep → Type 0
HearsPage (Ok None) old new = new ≡ old
HearsPage (Ok (Some ((next, numbers), []))) old new = new ≡ asking next numbers (record old { heard = [] })
HearsPage other old new = ⊥

-- the same of how many of a page's keys were removed
abbrev pub HearsCount : ℕ → Front ℕ → Sweep → Sweep → Type 0
HearsCount next (Ok None) old new = new ≡ old
HearsCount next (Ok (Some (count, []))) old new = new ≡ going_on next (record old { removed = old.removed + count; heard = [] })
HearsCount next other old new = ⊥

abbrev pub HearsAs : Awaits → Sweep → Sweep → Type 0
HearsAs Page old new = HearsPage (page_at old.heard) old new
HearsAs (Count next) old new = HearsCount next (integer_at old.heard) old new
HearsAs Nothing old new = ⊥

-- a piece more was told
abbrev pub Hears : List ℕ → Sweep → Sweep → Type 0
Hears piece old new = HearsAs old.awaits (record old { heard = old.heard ++ piece }) new

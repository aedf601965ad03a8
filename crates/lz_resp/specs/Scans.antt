-- Replies to scans.
use Rattle.std.specs.{Prelude.{ℕ, ◌==◌, Bool, true, if◌then◌else◌, List, [], ◌++◌, codes, count_by, decimal, Option, None, Some, unwrap_or}, List.{flat_map}}
use Rattle.lz_slot.specs.Rooms.{number_of, room_of}
use Rattle.lz_resp.specs.Frames.{bulk, line_end}

-- what a client is to send for the next page: 0 begins again
abbrev pub cursor_of : Option ℕ → ℕ
cursor_of next = unwrap_or next 0

-- the key is of this room, if one is named
abbrev pub is_in : Option ℕ → ℕ → Bool
is_in (Some room) key = room_of key == room
is_in None key = true

-- by which number a key is told: by its rank where it may be of any room
abbrev pub told_of : Option ℕ → ℕ → ℕ
told_of (Some room) key = number_of key
told_of None key = key

-- what is told of a key of the room as a bulk string, and nothing of another
abbrev pub member_text : Option ℕ → ℕ → List ℕ
member_text room key = if is_in room key then bulk (decimal (told_of room key)) else []

-- the cursor, and the room's members among the keys of a page
abbrev pub page_text : Option ℕ → List ℕ → Option ℕ → List ℕ
page_text room keys next =
    codes "*2\r\n" ++ bulk (decimal (cursor_of next)) ++ codes "*" ++ decimal (count_by (is_in room) keys) ++ line_end ++ flat_map (member_text room) keys

-- What a session asks of the service.
use Rattle.lz_proto.specs.declared.request.Request.TheVariants as request
use Rattle.std.specs.{Prelude.{ℕ, Bool, true, false, zero, suc, List, [], ◌∷◌}, List.{flat_map}}
use Rattle.lz_slot.specs.Rooms.{number_of, rank}
use Rattle.lz_proto.specs.declared.request.Request.{Request}
use Rattle.lz_resp.specs.declared.form.Form.{Form, TheVariants.{Added, Removed, Found, Each, Stored}}
use Rattle.lz_forget.specs.{Lives.{room_at}, declared.{asking.Ask.{Ask, TheVariants.{Has, Add, Remove}}, live.Live.{Live}}}

-- what a command asks whose replies are told in this form
abbrev pub ask_of : Form → Ask
ask_of Added = Add
ask_of Stored = Add
ask_of Found = Has
ask_of Each = Has
ask_of Removed = Remove

abbrev pub is_ask : Ask → Ask → Bool
is_ask Has Has = true
is_ask Add Add = true
is_ask Remove Remove = true
is_ask ask other = false

-- what asks so of a key in its room
abbrev pub request_of : Ask → ℕ → Request
request_of Has key = request.Has key
request_of Add key = request.Add key
request_of Remove key = request.Remove key

-- a key's number in so many rooms, from that of the epoch of this age on
abbrev pub rooms_of : Live → ℕ → ℕ → ℕ → List ℕ
rooms_of live from zero key = []
rooms_of live from (suc n) key = rank (room_at live from) (number_of key) ∷ rooms_of live (suc from) n key

-- the same of these keys, one after the other
abbrev pub all_rooms_of : Live → ℕ → ℕ → List ℕ → List ℕ
all_rooms_of live from n keys = flat_map (rooms_of live from n) keys

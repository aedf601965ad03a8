-- What frames ask for.
use Rattle.lz_resp.specs.declared.query.Query.TheVariants as query
use Rattle.std.specs.Prelude.{ℕ, ◌-◌, ◌+◌, ◌==◌, ◌&&◌, ◌||◌, min, nat_lt, Bool, if◌then◌else◌, List, [], ◌∷◌, ◌++◌, length, take, drop, codes, map}
use Rattle.std.specs.{Prelude.{Option, None, Some, option_map, option_and_then, slice_index_or, unwrap_or}, Char.{to_ascii_uppercase}}
use Rattle.lz_slot.specs.{Limits.{most_slots}, Numerals.{largest_read, number_in}}
use Rattle.lz_proto.specs.{declared.request.Request.{Request, TheVariants.{Add, Remove, Has}}, Lines.{carriage_return, line_feed}}
use Rattle.lz_resp.specs.{Limits.{few_listed, most_listed, most_value}, Frames.{bulk, line_end}, Keys.{Subset, key_of, of_name, room_of, unnamed}}
use Rattle.lz_resp.specs.{Names.{command_of, is_name, name_of, sections_of, subcommand_of, subname_of, subtakes, takes}, declared.command.Command.{Command}}
use Rattle.lz_resp.specs.declared.command.Command.TheVariants.{Sadd, Srem, Sismember, Smismember, Sscan, LzScan, LzClear, Exists, Del, Unlink, Setnx, Set, Select, Ping, Echo}
use Rattle.lz_resp.specs.declared.command.Command.TheVariants.{Quit, Reset, Hello, Client, Catalog, Config, Dbsize, Info as AskInfo, Multi, Exec, Discard, Shutdown}
use Rattle.lz_resp.specs.declared.subcommand.Subcommand.{Subcommand, TheVariants.{Getname, Setname, Setinfo, NoEvict, NoTouch, Count, Docs, Info, Get}}
use Rattle.lz_resp.specs.declared.{form.Form.{Form, TheVariants.{Added, Removed, Found, Each, Stored}}, naming.Selected.{Selected}}
use Rattle.lz_resp.specs.declared.{naming.Selected.TheVariants.{Room, Nameless}, query.Sections.{Sections, TheVariants.{All}}, item.Item.{Item}}
use Rattle.lz_resp.specs.declared.item.Item.TheVariants.{Asks, Says, Lists, Tells, Ends}

abbrev pub argument : List (List ℕ) → ℕ → List ℕ
argument arguments index = slice_index_or arguments index []

-- what a member's key is asked for a reply of this form
abbrev pub request_of : Form → ℕ → Request
request_of Added key = Add key
request_of Stored key = Add key
request_of Removed key = Remove key
request_of Found key = Has key
request_of Each key = Has key

-- a request for each member, unless one is no key
abbrev pub requests_of : Form → Subset → List (List ℕ) → Option (List Request)
requests_of form subset [] = Some []
requests_of form subset (member ∷ members) =
    option_and_then (λ key. option_map (λ requests. request_of form key ∷ requests) (requests_of form subset members)) (key_of subset member)

-- an error's text
abbrev pub error : List ℕ → List ℕ
error words = codes "-ERR " ++ words ++ line_end

abbrev pub no_number : List ℕ
no_number = error (codes "value is not an integer or out of range")

-- a member that is no key of a room
abbrev pub no_key : List ℕ
no_key = error (codes "value is not an integer or out of range (serve --text takes texts)")

-- a set's name that is no room
abbrev pub no_room : List ℕ
no_room = error (codes "a set's name is a room, 0 to 15 (serve --text takes names)")

abbrev pub no_database : List ℕ
no_database = error (codes "DB index is out of range")

-- where names are texts there are no rooms
abbrev pub one_database : List ℕ
one_database = error (codes "SELECT: with --text there is database 0 alone; give each application's sets names of their own")

abbrev pub bad_syntax : List ℕ
bad_syntax = error (codes "syntax error")

abbrev pub bad_set : List ℕ
bad_set = error (codes "syntax error: SET takes NX alone, as in SET key value NX")

abbrev pub bad_cursor : List ℕ
bad_cursor = error (codes "invalid cursor")

abbrev pub no_texts : List ℕ
no_texts = error (codes "texts are not kept, and none can be listed")

abbrev pub long_value : List ℕ
long_value = error (codes "values are not kept, and may have 64 bytes")

abbrev pub wrong_count : List ℕ → List ℕ
wrong_count name = error (codes "wrong number of arguments for '" ++ name ++ codes "' command")

-- a byte of an argument that stands in an error: no line ends in it
abbrev pub on_line : ℕ → ℕ
on_line b = if (b == carriage_return) then 32 else (if b == line_feed then 32 else b)

-- so many bytes of an argument
abbrev pub shown : ℕ → List ℕ → List ℕ
shown most argument = map on_line (take most argument)

-- arguments in quotes, as far as there is room for them
abbrev pub shown_all : ℕ → List (List ℕ) → List ℕ
shown_all room [] = []
shown_all room (argument ∷ arguments) =
    if room == 0 then []
    else codes "'" ++ shown room argument ++ codes "' " ++ shown_all (room - (length (shown room argument) + 3)) arguments

abbrev pub unknown : List (List ℕ) → List ℕ
unknown arguments = error (codes "unknown command '" ++ shown 128 (argument arguments 0) ++ codes "', with args beginning with: " ++ shown_all 128 (drop 1 arguments))

abbrev pub unknown_subcommand : Command → List ℕ → List ℕ
unknown_subcommand command argument =
    error (codes "unknown subcommand '" ++ shown 128 argument ++ codes "'. Try " ++ map to_ascii_uppercase (name_of command) ++ codes " HELP.")

abbrev pub no_version : List ℕ
no_version = error (codes "Protocol version is not an integer or out of range")

abbrev pub other_version : List ℕ
other_version = codes "-NOPROTO unsupported protocol version\r\n"

-- an option of HELLO: there are no passwords, and no name is kept
abbrev pub hello_option : List ℕ → List ℕ
hello_option argument = error (codes "Syntax error in HELLO option '" ++ shown 128 argument ++ codes "'")

abbrev pub ok_text : List ℕ
ok_text = codes "+OK\r\n"

abbrev pub reset_text : List ℕ
reset_text = codes "+RESET\r\n"

-- no command is kept for later, and none is done at once in its place
abbrev pub no_transactions : List ℕ
no_transactions = error (codes "transactions aren't served; nothing is done until EXEC or DISCARD")

abbrev pub exec_alone : List ℕ
exec_alone = error (codes "EXEC without MULTI")

abbrev pub discard_alone : List ℕ
discard_alone = error (codes "DISCARD without MULTI")

abbrev pub nil_text : List ℕ
nil_text = codes "$-1\r\n"

abbrev pub no_arguments_text : List ℕ
no_arguments_text = codes "*0\r\n"

-- the service's name, the version of Redis whose words these are, the protocol's number, and no client's number
abbrev pub hello_text : List ℕ
hello_text =
    codes "*14\r\n$6\r\nserver\r\n$7\r\nlazyset\r\n$7\r\nversion\r\n$5\r\n7.0.0\r\n$5\r\nproto\r\n:2\r\n$2\r\nid\r\n:0\r\n$4\r\nmode\r\n$10\r\nstandalone\r\n$4\r\nrole\r\n$6\r\nmaster\r\n$7\r\nmodules\r\n*0\r\n"

abbrev pub asked : Form → Option (List Request) → Item
asked form None = Says no_key
asked form (Some requests) = Asks form requests

-- members of this subset
abbrev pub in_subset : Form → Option Subset → List (List ℕ) → Item
in_subset form None members = Says no_room
in_subset form (Some subset) members = asked form (requests_of form subset members)

-- members of the subset that the frame names
abbrev pub in_named : Form → Selected → List (List ℕ) → Item
in_named form selected arguments = in_subset form (of_name selected (argument arguments 1)) (drop 2 arguments)

-- members of the subset of a command that names none
abbrev pub in_unnamed : Form → Selected → List (List ℕ) → Item
in_unnamed form selected members = in_subset form (Some (unnamed selected)) members

-- a member with a value
abbrev pub with_value : Form → Selected → List (List ℕ) → Item
with_value form selected arguments =
    if nat_lt most_value (length (argument arguments 2)) then Says long_value else in_unnamed form selected (argument arguments 1 ∷ [])

-- a greeting by the version of the protocol that a client asks for
abbrev pub hello_by : Option ℕ → List (List ℕ) → List ℕ
hello_by None arguments = no_version
hello_by (Some n) arguments =
    if n == 2 then (if nat_lt 2 (length arguments) then hello_option (argument arguments 2) else hello_text) else other_version

abbrev pub hello : List (List ℕ) → List ℕ
hello arguments = if nat_lt 1 (length arguments) then hello_by (number_in 0 largest_read (argument arguments 1)) arguments else hello_text

-- no name and no setting is kept, and no command is described
abbrev pub subtext_of : Subcommand → List ℕ
subtext_of Getname = nil_text
subtext_of Setname = ok_text
subtext_of Setinfo = ok_text
subtext_of NoEvict = ok_text
subtext_of NoTouch = ok_text
subtext_of Count = codes ":27\r\n"
subtext_of Docs = no_arguments_text
subtext_of Info = no_arguments_text
subtext_of Get = no_arguments_text

abbrev pub subtext_by : Command → Option Subcommand → List (List ℕ) → List ℕ
subtext_by command None arguments = unknown_subcommand command (argument arguments 1)
subtext_by command (Some subcommand) arguments =
    if subtakes subcommand (length arguments) then subtext_of subcommand else wrong_count (name_of command ++ codes "|" ++ subname_of subcommand)

-- what a command's subcommand is answered
abbrev pub subtext : Command → List (List ℕ) → List ℕ
subtext command arguments = subtext_by command (subcommand_of command (argument arguments 1)) arguments

-- the sections that are asked for: all, unless some are named
abbrev pub sections_in : List (List ℕ) → Sections
sections_in arguments = if length arguments == 2 then sections_of (argument arguments 1) else All

-- what SHUTDOWN is told of the members, which are kept in any case
abbrev pub is_saving : List ℕ → Bool
is_saving argument = is_name (codes "nosave") argument || is_name (codes "save") argument

abbrev pub may_shut_down : List (List ℕ) → Bool
may_shut_down arguments = (length arguments == 1) || ((length arguments == 2) && is_saving (argument arguments 1))

-- a page of a room, or of all, from a slot on, with so many keys at most
abbrev pub page_of : Option ℕ → ℕ → Option ℕ → Item
page_of room from None = Says no_number
page_of room from (Some most) = if most == 0 then Says bad_syntax else Lists (record { room = room; from = from; most = min most most_listed })

-- the same, as many as the arguments after the cursor ask for, if they do
abbrev pub page_from : Option ℕ → Option ℕ → List (List ℕ) → Item
page_from room None options = Says bad_cursor
page_from room (Some from) options =
    if length options == 0 then page_of room from (Some few_listed)
    else (if (length options == 2) && is_name (codes "count") (argument options 0) then page_of room from (number_in 0 largest_read (argument options 1)) else Says bad_syntax)

abbrev pub page_in : Option ℕ → List (List ℕ) → Item
page_in None arguments = Says no_room
page_in (Some room) arguments = page_from (Some room) (number_in 0 most_slots (argument arguments 2)) (drop 3 arguments)

-- what is asked of a room's members, one page after the other; a cursor is a slot
abbrev pub scan_of : Selected → List (List ℕ) → Item
scan_of (Room n) arguments = page_in (room_of (argument arguments 1)) arguments
scan_of (Nameless secret) arguments = Says no_texts

-- the same of the members of all rooms, whatever is selected
abbrev pub scan_all_of : List (List ℕ) → Item
scan_all_of arguments = page_from None (number_in 0 most_slots (argument arguments 1)) (drop 2 arguments)

-- what is asked of a room that is to have no members
abbrev pub clear_in : Option ℕ → Item
clear_in None = Says no_room
clear_in (Some room) = Tells (query.Clear room)

abbrev pub clear_of : Selected → List (List ℕ) → Item
clear_of (Room n) arguments = clear_in (room_of (argument arguments 1))
clear_of (Nameless secret) arguments = Says no_texts

-- what a client is told that selects this room: texts are in database 0
abbrev pub select_of : Selected → Option ℕ → Item
select_of (Room n) None = Says no_database
select_of (Room n) (Some room) = Says ok_text
select_of (Nameless secret) None = Says one_database
select_of (Nameless secret) (Some room) = if room == 0 then Says ok_text else Says one_database

-- what a frame that the command takes comes to, where this is selected
abbrev pub item_by : Command → Selected → List (List ℕ) → Item
item_by Sadd selected arguments = in_named Added selected arguments
item_by Srem selected arguments = in_named Removed selected arguments
item_by Sismember selected arguments = in_named Found selected arguments
item_by Smismember selected arguments = in_named Each selected arguments
item_by Sscan selected arguments = scan_of selected arguments
item_by LzScan selected arguments = scan_all_of arguments
item_by LzClear selected arguments = clear_of selected arguments
item_by Exists selected arguments = in_unnamed Found selected (drop 1 arguments)
item_by Del selected arguments = in_unnamed Removed selected (drop 1 arguments)
item_by Unlink selected arguments = in_unnamed Removed selected (drop 1 arguments)
item_by Setnx selected arguments = with_value Added selected arguments
item_by Set selected arguments =
    if (length arguments == 4) && is_name (codes "nx") (argument arguments 3) then with_value Stored selected arguments else Says bad_set
item_by Select selected arguments = select_of selected (room_of (argument arguments 1))
item_by Ping selected arguments = if length arguments == 2 then Says (bulk (argument arguments 1)) else Says (codes "+PONG\r\n")
item_by Echo selected arguments = Says (bulk (argument arguments 1))
item_by Quit selected arguments = Ends ok_text
item_by Reset selected arguments = Says reset_text
item_by Hello selected arguments = Says (hello arguments)
item_by Client selected arguments = Says (subtext Client arguments)
item_by Catalog selected arguments = if length arguments == 1 then Says no_arguments_text else Says (subtext Catalog arguments)
item_by Config selected arguments = Says (subtext Config arguments)
item_by Dbsize selected arguments = Tells query.Size
item_by AskInfo selected arguments = Tells (query.Info (sections_in arguments))
item_by Multi selected arguments = Says no_transactions
item_by Exec selected arguments = Says exec_alone
item_by Discard selected arguments = Says discard_alone
item_by Shutdown selected arguments = if may_shut_down arguments then Tells query.Shutdown else Says bad_syntax

abbrev pub item_with : Option Command → Selected → List (List ℕ) → Item
item_with None selected arguments = Says (unknown arguments)
item_with (Some command) selected arguments = if takes command (length arguments) then item_by command selected arguments else Says (wrong_count (name_of command))

-- what a frame of some arguments comes to
abbrev pub item_of : Selected → List (List ℕ) → Item
item_of selected arguments = item_with (command_of (argument arguments 0)) selected arguments

-- the room that a command selects
abbrev pub room_by : Option Command → ℕ → List (List ℕ) → ℕ
room_by (Some Select) room arguments = if length arguments == 2 then unwrap_or (room_of (argument arguments 1)) room else room
room_by (Some Reset) room arguments = if length arguments == 1 then 0 else room
room_by command room arguments = room

-- what a command selects: texts have no rooms
abbrev pub selected_by : Option Command → Selected → List (List ℕ) → Selected
selected_by command (Room room) arguments = Room (room_by command room arguments)
selected_by command (Nameless secret) arguments = Nameless secret

-- what is selected after a frame
abbrev pub selected_after : Selected → List (List ℕ) → Selected
selected_after selected arguments = selected_by (command_of (argument arguments 0)) selected arguments

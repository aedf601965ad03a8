-- Worked frames.
use Rattle.lz_resp.specs.declared.subcommand.Subcommand.TheVariants as subcommand
use Rattle.std.{proofs.Common.{◌≡◌, ◌≢◌, [], ◌∷◌, ◌++◌, length, Some, None, Ok, Err, refl, codes}, specs.{Fmt.{digits}, List.{flat_map}}}
use Rattle.lz_proto.specs.declared.{request.Request.TheVariants.{Add, Remove, Has}, reply.Reply.TheVariants.{Yes, No, Full, Halted, OldFile}}
use Rattle.lz_resp.specs.{Reading.{first_of}, Commands.{bad_set, item_of, selected_after, ok_text, no_database, no_key, no_room, no_arguments_text, nil_text, hello_text, no_version}}
use Rattle.lz_resp.specs.{Commands.{other_version, subtext_of}, Frames.{bulk}, Names.{all_commands, command_of, subcommand_of}, Replies.{fault_text, integer, text_of}}
use Rattle.lz_resp.specs.declared.command.Command.TheVariants.{Catalog, Client, Config, Del, Sadd, Shutdown, Unlink}
use Rattle.lz_resp.specs.declared.{fault.Fault.TheVariants.{Count, Length, NoBulk, NoEnd, Quotes}, form.Form.TheVariants.{Added, Removed, Found, Each, Stored}}
use Rattle.lz_resp.specs.declared.{naming.Selected.TheVariants.{Room}, item.Item.TheVariants.{Asks, Says, Ends}}

ping : first_of (codes "*1\r\n$4\r\nPING\r\n*1") ≡ Ok (Some (codes "PING" ∷ [], codes "*1"))
unfolding first_of
ping = refl

empty_argument : first_of (codes "*2\r\n$4\r\nECHO\r\n$0\r\n\r\n") ≡ Ok (Some (codes "ECHO" ∷ [] ∷ [], []))
unfolding first_of
empty_argument = refl

-- what begins as a line does is one, a line's end by itself and blanks between the arguments
inline : first_of (codes "sadd 0\t17 \r\nPING\n") ≡ Ok (Some (codes "sadd" ∷ codes "0" ∷ codes "17" ∷ [], codes "PING\n"))
unfolding first_of
inline = refl

empty_line : first_of (codes "\r\nPING\n") ≡ Ok (Some ([], codes "PING\n"))
unfolding first_of
empty_line = refl

no_arguments : (first_of (codes "*0\r\nx") ≡ Ok (Some ([], codes "x"))) × (first_of (codes "*-1\r\nx") ≡ Ok (Some ([], codes "x")))
unfolding first_of
no_arguments = (refl, refl)

-- a text that ends within a frame has none
within_a_frame :
    (first_of [] ≡ Ok None) × (first_of (codes "*1") ≡ Ok None) × (first_of (codes "*1\r") ≡ Ok None) × (first_of (codes "*1\r\n$4\r\nPING") ≡ Ok None)
    × (first_of (codes "*1\r\n$4\r\nPING\r") ≡ Ok None) × (first_of (codes "PING") ≡ Ok None)
unfolding first_of
within_a_frame = (refl, refl, refl, refl, refl, refl)

-- a length that is one too small or too large, and an argument without its line's end
wrong_length : (first_of (codes "*1\r\n$3\r\nPING\r\n") ≡ Err NoEnd) × (first_of (codes "*1\r\n$5\r\nPING\r\n*") ≡ Err NoEnd) × (first_of (codes "*1\r\n$4\r\nPING*1\r\n") ≡ Err NoEnd)
unfolding first_of
wrong_length = (refl, refl, refl)

no_length :
    (first_of (codes "*1\r\n$-1\r\n") ≡ Err Length) × (first_of (codes "*1\r\n$+4\r\nPING\r\n") ≡ Err Length) × (first_of (codes "*1\r\n$04\r\nPING\r\n") ≡ Err Length)
    × (first_of (codes "*1\r\n$\r\n") ≡ Err Length) × (first_of (codes "*1\r\n$4\rPING\r\n") ≡ Err Length) × (first_of (codes "*1\r\n$513\r\n") ≡ Err Length)
    × (first_of (codes "*1\r\n$99999999999999999999\r\n") ≡ Err Length)
unfolding first_of
no_length = (refl, refl, refl, refl, refl, refl, refl)

no_count :
    (first_of (codes "*\r\n") ≡ Err Count) × (first_of (codes "*+1\r\n") ≡ Err Count) × (first_of (codes "*01\r\n") ≡ Err Count) × (first_of (codes "*-0\r\n") ≡ Err Count)
    × (first_of (codes "*8193\r\n") ≡ Err Count) × (first_of (codes "*1 \r\n") ≡ Err Count)
unfolding first_of
no_count = (refl, refl, refl, refl, refl, refl)

-- the most arguments that a frame has
many : (first_of (codes "*8192\r\n") ≡ Ok None) × (first_of (codes "*5001\r\n$4\r\nSADD\r\n") ≡ Ok None)
unfolding first_of
many = (refl, refl)

no_dollar : (first_of (codes "*1\r\nPING\r\n") ≡ Err (NoBulk 80)) × (first_of (codes "*2\r\n$4\r\nECHO\r\n:1\r\n") ≡ Err (NoBulk 58))
unfolding first_of
no_dollar = (refl, refl)

quotes : (first_of (codes "ECHO \"a b\"\r\n") ≡ Err Quotes) × (first_of (codes "ECHO it's\n") ≡ Err Quotes)
unfolding first_of
quotes = (refl, refl)

-- a member by itself, and many
members :
    (item_of (Room 0) (codes "SADD" ∷ codes "3" ∷ codes "17" ∷ []) ≡ Asks Added (Add 3000000000000000017 ∷ []))
    × (item_of (Room 9) (codes "sRem" ∷ codes "0" ∷ codes "1" ∷ codes "2" ∷ codes "1" ∷ []) ≡ Asks Removed (Remove 1 ∷ Remove 2 ∷ Remove 1 ∷ []))
    × (item_of (Room 9) (codes "SMISMEMBER" ∷ codes "15" ∷ codes "5" ∷ []) ≡ Asks Each (Has 15000000000000000005 ∷ []))
members = (refl, refl, refl)

-- what names a way out
ways_out :
    (item_of (Room 0) (codes "SADD" ∷ codes "seen" ∷ codes "evt_1" ∷ []) ≡ Says (codes "-ERR a set's name is a room, 0 to 15 (serve --text takes names)\r\n"))
    × (item_of (Room 0) (codes "SETNX" ∷ codes "evt_1" ∷ codes "1" ∷ []) ≡ Says (codes "-ERR value is not an integer or out of range (serve --text takes texts)\r\n"))
    × (item_of (Room 0) (codes "SET" ∷ codes "k" ∷ codes "v" ∷ codes "EX" ∷ codes "60" ∷ []) ≡ Says bad_set)
    × (item_of (Room 0) (codes "SET" ∷ codes "5" ∷ codes "v" ∷ codes "NX" ∷ codes "EX" ∷ codes "60" ∷ []) ≡ Says bad_set)
    × (item_of (Room 0) (codes "SELECT" ∷ codes "seen" ∷ []) ≡ Says (codes "-ERR DB index is out of range\r\n"))
ways_out = (refl, refl, refl, refl, refl)

-- keys of the room that is selected
selected :
    (selected_after (Room 0) (codes "SELECT" ∷ codes "3" ∷ []) ≡ Room 3) × (item_of (Room 3) (codes "EXISTS" ∷ codes "5" ∷ []) ≡ Asks Found (Has 3000000000000000005 ∷ []))
    × (item_of (Room 3) (codes "SETNX" ∷ codes "5" ∷ codes "x" ∷ []) ≡ Asks Added (Add 3000000000000000005 ∷ []))
    × (item_of (Room 3) (codes "SET" ∷ codes "5" ∷ codes "1" ∷ codes "nx" ∷ []) ≡ Asks Stored (Add 3000000000000000005 ∷ []))
    × (selected_after (Room 3) (codes "SELECT" ∷ codes "16" ∷ []) ≡ Room 3) × (selected_after (Room 3) (codes "PING" ∷ []) ≡ Room 3)
selected = (refl, refl, refl, refl, refl, refl)

not_asked :
    (item_of (Room 0) (codes "SADD" ∷ codes "16" ∷ codes "1" ∷ []) ≡ Says no_room) × (item_of (Room 0) (codes "SADD" ∷ codes "0" ∷ codes "1" ∷ codes "x" ∷ []) ≡ Says no_key)
    × (item_of (Room 0) (codes "SADD" ∷ codes "0" ∷ codes "01" ∷ []) ≡ Says no_key) × (item_of (Room 0) (codes "SADD" ∷ codes "0" ∷ codes "3:1" ∷ []) ≡ Says no_key)
    × (item_of (Room 0) (codes "EXISTS" ∷ codes "1000000000000000000" ∷ []) ≡ Says no_key) × (item_of (Room 0) (codes "SELECT" ∷ codes "16" ∷ []) ≡ Says no_database)
    × (item_of (Room 0) (codes "SADD" ∷ codes "0" ∷ []) ≡ Says (codes "-ERR wrong number of arguments for 'sadd' command\r\n"))
    × (item_of (Room 0) (codes "SET" ∷ codes "5" ∷ codes "1" ∷ []) ≡ Says (codes "-ERR syntax error: SET takes NX alone, as in SET key value NX\r\n"))
    × (item_of (Room 0) (codes "FOO" ∷ codes "a" ∷ codes "b\n" ∷ []) ≡ Says (codes "-ERR unknown command 'FOO', with args beginning with: 'a' 'b ' \r\n"))
not_asked = (refl, refl, refl, refl, refl, refl, refl, refl, refl)

said :
    (item_of (Room 0) (codes "ping" ∷ []) ≡ Says (codes "+PONG\r\n")) × (item_of (Room 0) (codes "PING" ∷ codes "hi" ∷ []) ≡ Says (codes "$2\r\nhi\r\n"))
    × (item_of (Room 0) (codes "ECHO" ∷ [] ∷ []) ≡ Says (codes "$0\r\n\r\n")) × (item_of (Room 0) (codes "QUIT" ∷ []) ≡ Ends ok_text)
unfolding digits
said = (refl, refl, refl, refl)

-- the array that Redis sends: seven names and their values
hello :
    hello_text ≡ codes "*14\r\n" ++ flat_map bulk (codes "server" ∷ codes "lazyset" ∷ codes "version" ∷ codes "7.0.0" ∷ codes "proto" ∷ []) ++ integer 2
    ++ bulk (codes "id") ++ integer 0 ++ flat_map bulk (codes "mode" ∷ codes "standalone" ∷ codes "role" ∷ codes "master" ∷ codes "modules" ∷ []) ++ no_arguments_text
unfolding digits
hello = refl

greeted :
    (item_of (Room 0) (codes "HELLO" ∷ []) ≡ Says hello_text) × (item_of (Room 0) (codes "hello" ∷ codes "2" ∷ []) ≡ Says hello_text)
    × (item_of (Room 0) (codes "HELLO" ∷ codes "3" ∷ codes "SETNAME" ∷ codes "me" ∷ []) ≡ Says other_version) × (item_of (Room 0) (codes "HELLO" ∷ codes "1" ∷ []) ≡ Says other_version)
    × (item_of (Room 0) (codes "HELLO" ∷ codes "x" ∷ []) ≡ Says no_version)
    × (item_of (Room 0) (codes "HELLO" ∷ codes "2" ∷ codes "AUTH" ∷ codes "a" ∷ codes "b" ∷ []) ≡ Says (codes "-ERR Syntax error in HELLO option 'AUTH'\r\n"))
greeted = (refl, refl, refl, refl, refl, refl)

reset :
    (item_of (Room 9) (codes "Reset" ∷ []) ≡ Says (codes "+RESET\r\n")) × (selected_after (Room 9) (codes "Reset" ∷ []) ≡ Room 0) × (selected_after (Room 9) (codes "RESET" ∷ codes "x" ∷ []) ≡ Room 9)
    × (item_of (Room 9) (codes "RESET" ∷ codes "x" ∷ []) ≡ Says (codes "-ERR wrong number of arguments for 'reset' command\r\n"))
reset = (refl, refl, refl, refl)

client :
    (item_of (Room 0) (codes "CLIENT" ∷ codes "SETNAME" ∷ codes "me" ∷ []) ≡ Says ok_text) × (item_of (Room 0) (codes "client" ∷ codes "setinfo" ∷ codes "LIB-NAME" ∷ codes "redis-py" ∷ []) ≡ Says ok_text)
    × (item_of (Room 0) (codes "CLIENT" ∷ codes "GETNAME" ∷ []) ≡ Says nil_text) × (item_of (Room 0) (codes "CLIENT" ∷ codes "no-evict" ∷ codes "on" ∷ []) ≡ Says ok_text)
    × (item_of (Room 0) (codes "CLIENT" ∷ []) ≡ Says (codes "-ERR wrong number of arguments for 'client' command\r\n"))
    × (item_of (Room 0) (codes "CLIENT" ∷ codes "SETNAME" ∷ []) ≡ Says (codes "-ERR wrong number of arguments for 'client|setname' command\r\n"))
    × (item_of (Room 0) (codes "CLIENT" ∷ codes "ID" ∷ []) ≡ Says (codes "-ERR unknown subcommand 'ID'. Try CLIENT HELP.\r\n"))
    × (item_of (Room 0) (codes "CLIENT" ∷ codes "GET" ∷ codes "x" ∷ []) ≡ Says (codes "-ERR unknown subcommand 'GET'. Try CLIENT HELP.\r\n"))
client = (refl, refl, refl, refl, refl, refl, refl, refl)

described :
    (item_of (Room 0) (codes "COMMAND" ∷ []) ≡ Says no_arguments_text) × (item_of (Room 0) (codes "COMMAND" ∷ codes "DOCS" ∷ codes "sadd" ∷ []) ≡ Says no_arguments_text)
    × (item_of (Room 0) (codes "CONFIG" ∷ codes "GET" ∷ codes "save" ∷ []) ≡ Says no_arguments_text)
    × (item_of (Room 0) (codes "CONFIG" ∷ codes "GET" ∷ []) ≡ Says (codes "-ERR wrong number of arguments for 'config|get' command\r\n"))
    × (item_of (Room 0) (codes "CONFIG" ∷ codes "SET" ∷ codes "save" ∷ [] ∷ []) ≡ Says (codes "-ERR unknown subcommand 'SET'. Try CONFIG HELP.\r\n"))
described = (refl, refl, refl, refl, refl)

-- a name is looked for whole, in capitals or not
looked_for :
    (command_of (codes "SaDD") ≡ Some Sadd) × (command_of (codes "unlink") ≡ Some Unlink) × (command_of (codes "shutdown") ≡ Some Shutdown) × (command_of (codes "sad") ≡ None)
    × (command_of (codes "sadd ") ≡ None) × (command_of [] ≡ None) × (subcommand_of Client (codes "No-Touch") ≡ Some subcommand.NoTouch) × (subcommand_of Catalog (codes "getname") ≡ None)
looked_for = (refl, refl, refl, refl, refl, refl, refl, refl)

-- as many as there are
counted : subtext_of subcommand.Count ≡ integer (length all_commands)
unfolding digits
counted = refl

replied :
    (text_of Added (Yes ∷ No ∷ Yes ∷ []) ≡ codes ":2\r\n") × (text_of Found (No ∷ []) ≡ codes ":0\r\n") × (text_of Each (Yes ∷ No ∷ []) ≡ codes "*2\r\n:1\r\n:0\r\n")
    × (text_of Stored (Yes ∷ []) ≡ codes "+OK\r\n") × (text_of Stored (No ∷ []) ≡ codes "$-1\r\n")
unfolding digits
replied = (refl, refl, refl, refl, refl)

refused :
    (text_of Added (Yes ∷ Full ∷ Yes ∷ Yes ∷ Full ∷ []) ≡ codes "-FULL no slot is free; 3 of 5 were added\r\n") × (text_of Added (Yes ∷ Halted ∷ Full ∷ []) ≡ codes "-HALTED the device failed\r\n")
    × (text_of Each (OldFile ∷ []) ≡ codes "-OLDFILE the file has room 0 alone; 0 of 1 were found\r\n")
unfolding digits
refused = (refl, refl, refl)

malformed : (fault_text (NoBulk 10) ≡ codes "-ERR Protocol error: expected '$', got ' '\r\n") × (fault_text Count ≡ codes "-ERR Protocol error: invalid multibulk length\r\n")
malformed = (refl, refl)

-- What must not hold.

-- one command for another that does the same, and a subcommand of another command
not_looked_for : (command_of (codes "UNLINK") ≢ Some Del) × (subcommand_of Config (codes "INFO") ≢ Some subcommand.Info)
not_looked_for = (λ e. cc, λ e. cc)

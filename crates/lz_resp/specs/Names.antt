-- The commands, subcommands and sections: their names, and of how many arguments a frame is.
use Rattle.lz_resp.specs.declared.query.Sections.TheVariants as sections
use Rattle.std.specs.Prelude.{ℕ, ◌==◌, ◌||◌, Bool, true, nat_eq, nat_le, if◌then◌else◌, List, [], ◌∷◌, codes, map, Option, None, Some}
use Rattle.std.specs.{Char.{to_ascii_lowercase}, Cmp.Lexicographic.{pointwise}}
use Rattle.lz_resp.specs.declared.command.Command.{Command, TheVariants.{Sadd, Srem, Sismember, Smismember, Sscan, LzScan, LzClear, Exists, Del, Unlink, Setnx, Set, Select}}
use Rattle.lz_resp.specs.declared.command.Command.TheVariants.{Ping, Echo, Quit, Reset, Hello, Client, Catalog, Config, Dbsize, Info as AskInfo, Multi, Exec, Discard, Shutdown}
use Rattle.lz_resp.specs.declared.{query.Sections.{Sections}, subcommand.Subcommand.{Subcommand}}
use Rattle.lz_resp.specs.declared.subcommand.Subcommand.TheVariants.{Getname, Setname, Setinfo, NoEvict, NoTouch, Count, Docs, Info, Get}

abbrev pub name_of : Command → List ℕ
name_of Sadd = codes "sadd"
name_of Srem = codes "srem"
name_of Sismember = codes "sismember"
name_of Smismember = codes "smismember"
name_of Sscan = codes "sscan"
name_of LzScan = codes "lz.scan"
name_of LzClear = codes "lz.clear"
name_of Exists = codes "exists"
name_of Del = codes "del"
name_of Unlink = codes "unlink"
name_of Setnx = codes "setnx"
name_of Set = codes "set"
name_of Select = codes "select"
name_of Ping = codes "ping"
name_of Echo = codes "echo"
name_of Quit = codes "quit"
name_of Reset = codes "reset"
name_of Hello = codes "hello"
name_of Client = codes "client"
name_of Catalog = codes "command"
name_of Config = codes "config"
name_of Dbsize = codes "dbsize"
name_of AskInfo = codes "info"
name_of Multi = codes "multi"
name_of Exec = codes "exec"
name_of Discard = codes "discard"
name_of Shutdown = codes "shutdown"

abbrev pub all_commands : List Command
all_commands =
    Sadd ∷ Srem ∷ Sismember ∷ Smismember ∷ Sscan ∷ LzScan ∷ LzClear ∷ Exists ∷ Del ∷ Unlink ∷ Setnx ∷ Set ∷ Select ∷ Ping ∷ Echo ∷ Quit ∷ Reset ∷ Hello ∷ Client ∷ Catalog ∷ Config ∷ Dbsize ∷ AskInfo ∷ Multi ∷ Exec ∷ Discard ∷ Shutdown ∷ []

-- the command takes a frame of so many arguments
abbrev pub takes : Command → ℕ → Bool
takes Sadd n = nat_le 3 n
takes Srem n = nat_le 3 n
takes Sismember n = n == 3
takes Smismember n = nat_le 3 n
takes Sscan n = nat_le 3 n
takes LzScan n = nat_le 2 n
takes LzClear n = n == 2
takes Exists n = nat_le 2 n
takes Del n = nat_le 2 n
takes Unlink n = nat_le 2 n
takes Setnx n = n == 3
takes Set n = nat_le 3 n
takes Select n = n == 2
takes Ping n = nat_le n 2
takes Echo n = n == 2
takes Quit n = true
takes Reset n = n == 1
takes Hello n = true
takes Client n = nat_le 2 n
takes Catalog n = true
takes Config n = nat_le 2 n
takes Dbsize n = n == 1
takes AskInfo n = nat_le n 2
takes Multi n = n == 1
takes Exec n = n == 1
takes Discard n = n == 1
takes Shutdown n = true

abbrev pub subname_of : Subcommand → List ℕ
subname_of Getname = codes "getname"
subname_of Setname = codes "setname"
subname_of Setinfo = codes "setinfo"
subname_of NoEvict = codes "no-evict"
subname_of NoTouch = codes "no-touch"
subname_of Count = codes "count"
subname_of Docs = codes "docs"
subname_of Info = codes "info"
subname_of Get = codes "get"

abbrev pub subcommands : Command → List Subcommand
subcommands Client = Getname ∷ Setname ∷ Setinfo ∷ NoEvict ∷ NoTouch ∷ []
subcommands Catalog = Count ∷ Docs ∷ Info ∷ []
subcommands Config = Get ∷ []
subcommands command = []

-- the subcommand takes a frame of so many arguments, those of both names among them
abbrev pub subtakes : Subcommand → ℕ → Bool
subtakes Getname n = n == 2
subtakes Setname n = n == 3
subtakes Setinfo n = n == 4
subtakes NoEvict n = n == 3
subtakes NoTouch n = n == 3
subtakes Count n = n == 2
subtakes Docs n = nat_le 2 n
subtakes Info n = nat_le 2 n
subtakes Get n = nat_le 3 n

-- the argument is this name, in capitals or not
abbrev pub is_name : List ℕ → List ℕ → Bool
is_name name argument = pointwise nat_eq (map to_ascii_lowercase argument) (map to_ascii_lowercase name)

-- the first of these whose name the argument is
abbrev pub named : {A : Type 0} → (A → List ℕ) → List A → List ℕ → Option A
named names [] argument = None
named names (one ∷ others) argument = if is_name (names one) argument then Some one else named names others argument

abbrev pub command_of : List ℕ → Option Command
command_of argument = named name_of all_commands argument

abbrev pub subcommand_of : Command → List ℕ → Option Subcommand
subcommand_of command argument = named subname_of (subcommands command) argument

-- the sections that an argument names
abbrev pub sections_of : List ℕ → Sections
sections_of argument =
    if is_name (codes "default") argument || is_name (codes "all") argument || is_name (codes "everything") argument then sections.All
    else (if is_name (codes "server") argument then sections.Server
    else (if is_name (codes "clients") argument then sections.Clients
    else (if is_name (codes "memory") argument then sections.Memory
    else (if is_name (codes "stats") argument then sections.Stats
    else (if is_name (codes "latencystats") argument then sections.Latencies
    else (if is_name (codes "keyspace") argument then sections.Keyspace
    else (if is_name (codes "lazyset") argument then sections.Lazyset
    else sections.Missing)))))))

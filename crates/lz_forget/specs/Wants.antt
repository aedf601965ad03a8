-- What a client's frame wants of a set that forgets.
use Rattle.lz_forget.specs.declared.wanted.Wanted.TheVariants as wanted
use Rattle.lz_resp.specs.declared.item.Item.TheVariants as item
use Rattle.std.specs.Prelude.{◌≡◌, ℕ, Bool, false, ◌==◌, ◌&&◌, ◌*◌, length, if◌then◌else◌, List, [], ◌∷◌, ◌++◌, codes, decimal, Option, None, Some}
use Rattle.lz_slot.specs.Numerals.{largest_read, number_in}
use Rattle.lz_resp.specs.{Commands.{argument, error}, Frames.{line_end}, Names.{is_name}, Transactions.{item_in, state_after}}
use Rattle.lz_resp.specs.declared.{item.Item.{Item}, query.{Query.{Query}, Sections.{Sections}}, state.State.{State}}
use Rattle.lz_resp.specs.declared.query.Query.TheVariants.{Size, Info, Clear, Shutdown}
use Rattle.lz_resp.specs.declared.query.Sections.TheVariants.{All, Server, Clients, Memory, Stats, Latencies, Keyspace, Lazyset, Missing}
use Rattle.lz_forget.specs.declared.{wanted.{Wanted.{Wanted}, Reading.TheVariants.{Line, Bulk, Page}}, commands.Extra.{Extra, TheVariants.{Nothing, Claim, OtherTime, Left}}}

abbrev pub section_name : Sections → List ℕ
section_name All = codes "all"
section_name Server = codes "server"
section_name Clients = codes "clients"
section_name Memory = codes "memory"
section_name Stats = codes "stats"
section_name Latencies = codes "latencystats"
section_name Keyspace = codes "keyspace"
section_name Lazyset = codes "lazyset"
section_name Missing = codes "none"

abbrev pub no_rooms : List ℕ
no_rooms = error (codes "rooms are epochs here")

-- what is asked of the service itself it is asked in the words of a client
abbrev pub query_wanted : Query → Wanted
query_wanted Size = wanted.Passes Line (codes "DBSIZE" ++ line_end)
query_wanted (Info sections) = wanted.Passes Bulk (codes "INFO " ++ section_name sections ++ line_end)
query_wanted (Clear room) = wanted.Says no_rooms
query_wanted Shutdown = wanted.Passes Line (codes "SHUTDOWN" ++ line_end)

-- a page of all rooms, and none of one
abbrev pub page_wanted : Option ℕ → ℕ → ℕ → Wanted
page_wanted None from most = wanted.Passes Page (codes "LZ.SCAN " ++ decimal from ++ codes " COUNT " ++ decimal most ++ line_end)
page_wanted (Some room) from most = wanted.Says no_rooms

-- what an item wants
abbrev pub wanted_by : Item → Wanted
wanted_by (item.Asks form requests) = wanted.Asks form requests
wanted_by (item.Says text) = wanted.Says text
wanted_by (item.Lists scan) = page_wanted scan.room scan.from scan.most
wanted_by (item.Tells query) = query_wanted query
wanted_by (item.Ends text) = wanted.Ends text

-- the time that two arguments name, and its unit in milliseconds
abbrev pub time_of : List ℕ → List ℕ → Option (ℕ × List ℕ)
time_of name digits =
    if is_name (codes "ex") name then Some (1000, digits) else (if is_name (codes "px") name then Some (1, digits) else None)

-- the same of options of which one is NX, the first or the last
abbrev pub time_in : List ℕ → List ℕ → List ℕ → Option (ℕ × List ℕ)
time_in a b c = if is_name (codes "nx") a then time_of b c else (if is_name (codes "nx") c then time_of a b else None)

-- the number of units is the time after which the set forgets
abbrev pub is_period : ℕ → ℕ → Option ℕ → Bool
is_period seconds unit None = false
is_period seconds unit (Some n) = n * unit == seconds * 1000

abbrev pub by_time : ℕ → Option (ℕ × List ℕ) → Extra
by_time seconds None = Nothing
by_time seconds (Some (unit, digits)) = if is_period seconds unit (number_in 0 largest_read digits) then Claim else OtherTime

-- what a command of this name asks of a key
abbrev pub left_in : List ℕ → Extra
left_in name = if is_name (codes "ttl") name then Left 1000 else (if is_name (codes "pttl") name then Left 1 else Nothing)

-- what arguments ask that only a set takes which forgets after so many seconds
abbrev pub extra_in : ℕ → List (List ℕ) → Extra
extra_in seconds arguments =
    if length arguments == 2 then left_in (argument arguments 0)
    else (if (length arguments == 6) && is_name (codes "set") (argument arguments 0)
    then by_time seconds (time_in (argument arguments 3) (argument arguments 4) (argument arguments 5))
    else Nothing)

-- a claim has six arguments, and a question for the time that is left two
abbrev pub HasCount : Extra → ℕ → Type 0
HasCount Claim n = n ≡ 6
HasCount (Left unit) n = n ≡ 2
HasCount extra n = Unit {0}

-- what such a set is told of another time
abbrev pub other_time : ℕ → List ℕ
other_time seconds = error (codes "this service forgets after " ++ decimal seconds ++ codes " seconds")

-- a claim's arguments without the time
abbrev pub claim : List (List ℕ) → List (List ℕ)
claim arguments = argument arguments 0 ∷ argument arguments 1 ∷ argument arguments 2 ∷ codes "nx" ∷ []

-- a lookup of the key whose time is asked for
abbrev pub lookup : List (List ℕ) → List (List ℕ)
lookup arguments = codes "exists" ∷ argument arguments 1 ∷ []

-- what the key's lookup wants is the time that is left
abbrev pub left_by : ℕ → Item → Wanted
left_by unit (item.Asks form requests) = wanted.Left unit requests
left_by unit other = wanted_by other

abbrev pub claim_wanted : State → List (List ℕ) → Wanted × State
claim_wanted state arguments = (wanted_by (item_in state (claim arguments)), state_after state (claim arguments))

abbrev pub lookup_wanted : ℕ → State → List (List ℕ) → Wanted × State
lookup_wanted unit state arguments = (left_by unit (item_in state (lookup arguments)), state_after state (lookup arguments))

-- what a frame of some arguments wants in this state, and the state after it
abbrev pub wanted_as : Extra → ℕ → State → List (List ℕ) → Wanted × State
wanted_as Nothing seconds state arguments = (wanted_by (item_in state arguments), state_after state arguments)
wanted_as Claim seconds state arguments = claim_wanted state arguments
wanted_as OtherTime seconds state arguments = (wanted.Says (other_time seconds), state)
wanted_as (Left unit) seconds state arguments = lookup_wanted unit state arguments

abbrev pub wanted_in : ℕ → State → List (List ℕ) → Wanted × State
wanted_in seconds state arguments = wanted_as (extra_in seconds arguments) seconds state arguments

-- What a service is asked of itself, and what it tells.
use Rattle.std.specs.{Prelude.{ℕ, ⊤, ◌-◌, ◌==◌, Bool, false, if◌then◌else◌, List, [], ◌∷◌, ◌++◌, length, drop, codes, decimal}, List.{flat_map}}
use Rattle.lz_resp.specs.{Commands.{error}, Frames.{bulk, line_end}, Replies.{integer}, declared.{figures.{Cleared.{Cleared, TheVariants.{Removed, Busy, Stopped}}, Figures.{Figures}}, query.Query.{Query}}}
use Rattle.lz_resp.specs.declared.query.{Query.TheVariants.{Size, Info, Clear, Shutdown}, Sections.{Sections}}
use Rattle.lz_resp.specs.declared.query.Sections.TheVariants.{All, Server, Clients, Memory, Stats, Latencies, Keyspace, Lazyset, Missing}

-- a line of a name and its number
abbrev pub row : List ℕ → ℕ → List ℕ
row name number = name ++ codes ":" ++ decimal number ++ line_end

-- the number of a run, in 40 digits
abbrev pub run_text : ℕ → List ℕ
run_text n = drop (length (decimal n)) (codes "0000000000000000000000000000000000000000") ++ decimal n

-- the version of Redis whose words these are
unfoldable pub server_text : Figures → List ℕ
server_text f =
    codes "# Server\r\nredis_version:7.0.0\r\nredis_mode:standalone\r\n" ++ row (codes "process_id") f.process ++ codes "run_id:" ++ run_text f.run ++ line_end
    ++ row (codes "uptime_in_seconds") f.seconds

unfoldable pub clients_text : Figures → List ℕ
clients_text f = codes "# Clients\r\n" ++ row (codes "connected_clients") f.clients ++ row (codes "maxclients") f.most_clients

-- a share of this memory is the share of the slots that aren't free
unfoldable pub memory_text : Figures → List ℕ
memory_text f = codes "# Memory\r\n" ++ row (codes "used_memory") f.used_bytes ++ row (codes "maxmemory") f.most_bytes

unfoldable pub stats_text : Figures → List ℕ
stats_text f =
    codes "# Stats\r\n" ++ row (codes "total_connections_received") f.sessions ++ row (codes "total_commands_processed") f.answered
    ++ row (codes "instantaneous_ops_per_sec") f.rate

unfoldable pub latency_text : Figures → List ℕ
latency_text f = codes "# Latencystats\r\nlatency_percentiles_usec_reply:p50=" ++ decimal f.median_us ++ codes ",p99=" ++ decimal f.p99_us ++ line_end

-- members of all rooms together; nothing of none
unfoldable pub keyspace_text : Figures → List ℕ
keyspace_text f = if f.members == 0 then codes "# Keyspace\r\n" else codes "# Keyspace\r\ndb0:keys=" ++ decimal f.members ++ codes ",expires=0,avg_ttl=0\r\n"

abbrev pub lazyset_rows : Figures → List (List ℕ × ℕ)
lazyset_rows f =
    (codes "format", f.format) ∷ (codes "slots", f.slots) ∷ (codes "members", f.members) ∷ (codes "free", f.slots - f.members - f.marks) ∷ (codes "buckets", f.buckets) ∷ (codes "passes", f.passes)
    ∷ (codes "loops", f.loops) ∷ (codes "adds", f.adds) ∷ (codes "removes", f.removes) ∷ (codes "lookups", f.lookups) ∷ (codes "full", f.full) ∷ []

unfoldable pub version_text : Figures → List ℕ
version_text f = codes "lazyset_version:" ++ decimal f.major ++ codes "." ++ decimal f.minor ++ line_end

unfoldable pub lazyset_text : Figures → List ℕ
lazyset_text f = codes "# Lazyset\r\n" ++ version_text f ++ flat_map (λ r. row r.0 r.1) (lazyset_rows f)

-- an empty line stands between two sections: of those on its state, and of those on its load and its set
abbrev pub state_text : Figures → List ℕ
state_text f = server_text f ++ line_end ++ clients_text f ++ line_end ++ memory_text f

abbrev pub load_text : Figures → List ℕ
load_text f = stats_text f ++ line_end ++ latency_text f ++ line_end ++ keyspace_text f ++ line_end ++ lazyset_text f

abbrev pub all_text : Figures → List ℕ
all_text f = state_text f ++ line_end ++ load_text f

abbrev pub info_text : Sections → Figures → List ℕ
info_text All f = all_text f
info_text Server f = server_text f
info_text Clients f = clients_text f
info_text Memory f = memory_text f
info_text Stats f = stats_text f
info_text Latencies f = latency_text f
info_text Keyspace f = keyspace_text f
info_text Lazyset f = lazyset_text f
info_text Missing f = []

-- what a client is told of a room that was to be cleared
abbrev pub cleared_text : Cleared → List ℕ
cleared_text (Removed count) = integer count
cleared_text Busy = error (codes "a room is being cleared: try again after it")
cleared_text (Stopped count) = error (codes "the room isn't cleared: " ++ decimal count ++ codes " of its keys were removed")

-- the reply of a service of which this is known: none to a client that ends it
abbrev pub query_text : Query → Figures → List ℕ
query_text Size f = integer f.members
query_text (Info sections) f = bulk (info_text sections f)
query_text (Clear room) f = cleared_text f.cleared
query_text Shutdown f = if f.stoppable then [] else error (codes "SHUTDOWN is taken over a Unix socket alone")

-- whether the service is to end then
abbrev pub ends_service : Query → Figures → Bool
ends_service Shutdown f = f.stoppable
ends_service query f = false

-- that a room is cleared is asked for, which takes a while
abbrev pub IsClear : Query → Type 0
IsClear (Clear room) = ⊤
IsClear query = ⊥

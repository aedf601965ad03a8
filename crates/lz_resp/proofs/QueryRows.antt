-- Worked queries.
use Rattle.std.{proofs.Common.{◌≡◌, ◌≢◌, true, false, None, [], ◌∷◌, ◌++◌, refl, codes}, specs.Fmt.{digits}}
use Rattle.lz_resp.specs.{Commands.{bad_syntax, item_of, no_room, no_texts}, Frames.{bulk}}
use Rattle.lz_resp.specs.Queries.{clients_text, ends_service, info_text, keyspace_text, latency_text, lazyset_text, memory_text, query_text, server_text, stats_text, version_text}
use Rattle.lz_resp.specs.declared.{figures.{Cleared.TheVariants.{Removed, Busy, Stopped}, Figures.{Figures}}, naming.Selected.TheVariants.{Room, Nameless}, item.Item.TheVariants.{Says, Tells}}
use Rattle.lz_resp.specs.declared.query.{Query.TheVariants.{Size, Info, Clear, Shutdown}, Sections.TheVariants.{All, Server, Clients, Latencies, Memory, Missing}}

asked :
    (item_of (Room 3) (codes "DbSize" ∷ []) ≡ Tells Size) × (item_of (Room 3) (codes "DBSIZE" ∷ codes "3" ∷ []) ≡ Says (codes "-ERR wrong number of arguments for 'dbsize' command\r\n"))
    × (item_of (Room 0) (codes "info" ∷ []) ≡ Tells (Info All)) × (item_of (Room 0) (codes "INFO" ∷ codes "Everything" ∷ []) ≡ Tells (Info All))
    × (item_of (Room 0) (codes "INFO" ∷ codes "SERVER" ∷ []) ≡ Tells (Info Server)) × (item_of (Room 0) (codes "INFO" ∷ codes "persistence" ∷ []) ≡ Tells (Info Missing))
    × (item_of (Room 0) (codes "INFO" ∷ codes "memory" ∷ []) ≡ Tells (Info Memory)) × (item_of (Room 0) (codes "INFO" ∷ codes "LatencyStats" ∷ []) ≡ Tells (Info Latencies))
    × (item_of (Room 0) (codes "INFO" ∷ codes "server" ∷ codes "clients" ∷ []) ≡ Says (codes "-ERR wrong number of arguments for 'info' command\r\n"))
asked = (refl, refl, refl, refl, refl, refl, refl, refl, refl)

shut_down :
    (item_of (Room 0) (codes "SHUTDOWN" ∷ []) ≡ Tells Shutdown) × (item_of (Room 0) (codes "SHUTDOWN" ∷ codes "nosave" ∷ []) ≡ Tells Shutdown)
    × (item_of (Room 0) (codes "shutdown" ∷ codes "SAVE" ∷ []) ≡ Tells Shutdown) × (item_of (Room 0) (codes "SHUTDOWN" ∷ codes "abort" ∷ []) ≡ Says bad_syntax)
    × (item_of (Room 0) (codes "SHUTDOWN" ∷ codes "nosave" ∷ codes "now" ∷ []) ≡ Says bad_syntax)
shut_down = (refl, refl, refl, refl, refl)

cleared :
    (item_of (Room 0) (codes "LZ.CLEAR" ∷ codes "3" ∷ []) ≡ Tells (Clear 3)) × (item_of (Room 0) (codes "lz.clear" ∷ codes "16" ∷ []) ≡ Says no_room)
    × (item_of (Nameless None) (codes "LZ.CLEAR" ∷ codes "3" ∷ []) ≡ Says no_texts)
    × (item_of (Room 0) (codes "LZ.CLEAR" ∷ []) ≡ Says (codes "-ERR wrong number of arguments for 'lz.clear' command\r\n"))
    × (item_of (Room 0) (codes "LZ.CLEAR" ∷ codes "3" ∷ codes "4" ∷ []) ≡ Says (codes "-ERR wrong number of arguments for 'lz.clear' command\r\n"))
cleared = (refl, refl, refl, refl, refl)

abbrev pub seen : Figures
seen = record {
  major = 1;
  minor = 8;
  process = 4711;
  run = 1795810000123456;
  seconds = 60;
  stoppable = true;
  clients = 2;
  most_clients = 100;
  sessions = 9;
  answered = 14;
  rate = 7;
  median_us = 96;
  p99_us = 1280;
  adds = 5;
  removes = 2;
  lookups = 4;
  full = 1;
  format = 2;
  slots = 10;
  used_bytes = 48;
  most_bytes = 160;
  members = 3;
  marks = 0;
  buckets = 16;
  passes = 4;
  loops = 1;
  cleared = Removed 7;
}

-- members are counted, and not slots
size : (query_text Size seen ≡ codes ":3\r\n") × (query_text Size seen ≢ codes ":10\r\n")
unfolding digits
size = (refl, λ e. cc)

told :
    info_text All seen ≡ codes "# Server\r\nredis_version:7.0.0\r\nredis_mode:standalone\r\nprocess_id:4711\r\nrun_id:0000000000000000000000001795810000123456\r\nuptime_in_seconds:60\r\n\r\n"
    ++ codes "# Clients\r\nconnected_clients:2\r\nmaxclients:100\r\n\r\n# Memory\r\nused_memory:48\r\nmaxmemory:160\r\n\r\n"
    ++ codes "# Stats\r\ntotal_connections_received:9\r\ntotal_commands_processed:14\r\ninstantaneous_ops_per_sec:7\r\n\r\n"
    ++ codes "# Latencystats\r\nlatency_percentiles_usec_reply:p50=96,p99=1280\r\n\r\n"
    ++ codes "# Keyspace\r\ndb0:keys=3,expires=0,avg_ttl=0\r\n\r\n# Lazyset\r\nlazyset_version:1.8\r\nformat:2\r\nslots:10\r\nmembers:3\r\nfree:7\r\nbuckets:16\r\npasses:4\r\nloops:1\r\n"
    ++ codes "adds:5\r\nremoves:2\r\nlookups:4\r\nfull:1\r\n"
unfolding digits server_text clients_text memory_text stats_text latency_text keyspace_text lazyset_text version_text
told = refl

sections :
    (query_text (Info Clients) seen ≡ bulk (codes "# Clients\r\nconnected_clients:2\r\nmaxclients:100\r\n")) × (query_text (Info Missing) seen ≡ codes "$0\r\n\r\n")
    × (keyspace_text (record seen { members = 0 }) ≡ codes "# Keyspace\r\n")
unfolding digits clients_text keyspace_text
sections = (refl, refl, refl)

-- how many keys were removed, and that is no matter of how many there are
told_of_a_room :
    (query_text (Clear 3) seen ≡ codes ":7\r\n") × (query_text (Clear 3) (record seen { members = 9 }) ≡ codes ":7\r\n") × (ends_service (Clear 3) seen ≡ false)
    × (query_text (Clear 3) (record seen { cleared = Busy }) ≡ codes "-ERR a room is being cleared: try again after it\r\n")
    × (query_text (Clear 3) (record seen { cleared = Stopped 12 }) ≡ codes "-ERR the room isn't cleared: 12 of its keys were removed\r\n")
unfolding digits
told_of_a_room = (refl, refl, refl, refl, refl)

-- who may end a service is told nothing more, and who may not is told so
ended :
    (query_text Shutdown seen ≡ []) × (ends_service Shutdown seen ≡ true) × (ends_service Size seen ≡ false)
    × (query_text Shutdown (record seen { stoppable = false }) ≡ codes "-ERR SHUTDOWN is taken over a Unix socket alone\r\n") × (ends_service Shutdown (record seen { stoppable = false }) ≡ false)
ended = (refl, refl, refl, refl, refl)

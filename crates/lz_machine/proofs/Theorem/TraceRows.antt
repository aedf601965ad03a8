-- Worked rows that the machine computes: its marks, what is durable, and its traces.
use Rattle.std.proofs.Common.{◌≡◌, inl, inr, reverse, ℕ, ◌+◌, ◌^◌, true, false, List, [], ◌∷◌, ◌++◌, replicate, refl, Some, None, drop}
use Rattle.lz_slot.specs.declared.{format.Format.TheVariants.{One, Two}, command.Command.TheVariants.{Add, Remove, Has}, history.HistoryEvent.{HistoryEvent}}
use Rattle.lz_slot.specs.declared.history.{HistoryEvent.TheVariants.{Call, Answer, Refused, Cut, Stop, Crash, Opened}, Refusal.TheVariants.{Full}}
use Rattle.lz_slot.specs.{declared.history.Cut.TheVariants.{Halted, Device}, Bytes.{slot_body, open_byte, header_body}}
use Rattle.lz_list.specs.declared.{place.Place.TheVariants.{Bucket}, word.Word.TheVariants.{Head, Halt as HaltWord}}
use Rattle.lz_list.specs.declared.publishing.Publishing.TheVariants.{Linked as linked, Settled as settled, Marked as marked, Unlinked as unlinked}
use Rattle.lz_list.specs.declared.publishing.Publishing.TheVariants.{KeyPrepared as key_prepared, LinkPrepared as link_prepared}
use Rattle.lz_list.specs.{declared.publishing.Change.TheVariants.{Added, Removed}, Words.{Words}}
use Rattle.lz_list.specs.Traces.{is_removed, linking, Trace, SettledYes, SettledNo, words_of_trace, bucket_of}
use Rattle.lz_machine.specs.declared.event.Event.{Event, TheVariants.{Pin, Hop, Reserve, WriteKey, Claim, Check, WriteOpen, Link, Release, Sync, Settle}}
use Rattle.lz_machine.specs.{declared.event.Event.TheVariants.{Answer as AnswerIt}, Runs.{Start, State, Up, Down, Transition, Calls, Turn, Fails, Trips, Stops}}
use Rattle.lz_machine.specs.Runs.{Crashes, CrashesIn, Opens, Point, first_point, point_after, run, made_text, caller_at, next_event, disk_of}

abbrev pub fresh : ℕ → ℕ → Start
fresh slots passes = record { bytewise = false; shape = record { slots = slots; buckets = 1; passes = passes }; text = made_text One slots }

abbrev pub turns : ℕ → ℕ → List Transition
turns a n = replicate n (Turn a)

-- the point to which a script leads; scripts stand oldest first, and so do their marks here
abbrev pub play : Start → List Transition → Point
play start script = run (first_point start) (reverse script)

abbrev pub marks_after : Start → List Transition → List HistoryEvent
marks_after start script = reverse (play start script).marks

abbrev seen_after : Start → List Transition → List ℕ
seen_after start script = (disk_of (play start script).state).seen

abbrev sure_after : Start → List Transition → List ℕ
sure_after start script = (disk_of (play start script).state).sure

-- the next event of an actor, if it has a call
abbrev next_of_actor : State → ℕ → List Event
next_of_actor (Down shape disk) a = []
next_of_actor (Up service disk) a = elim (caller_at service.callers a) [ None ↦ [] | Some caller ↦ next_event service.yard caller ∷ [] ]

-- its next events in turn, of a script
abbrev events : Point → ℕ → List Transition → List Event
events p a [] = []
events p a (step ∷ steps) = next_of_actor p.state a ++ events (point_after p step) a steps

-- add 9 to an empty file takes fifteen turns
fifteen_turns : marks_after (fresh 1 64) (Calls 1 (Add 9) ∷ turns 1 15) ≡ Call 1 1 (Add 9) ∷ Answer 1 true ∷ []
unfolding bucket_of
fifteen_turns = refl

fifteen_events : events (first_point (fresh 1 64)) 1 (Calls 1 (Add 9) ∷ turns 1 15)
    ≡ Pin ∷ Hop HaltWord ∷ Hop (Head 0) ∷ Reserve ∷ WriteKey 9 ∷ Sync 0 ∷ Hop (Head 0) ∷ Claim (Bucket 0) None ∷ Check ∷ WriteOpen
    ∷ Link ∷ Release ∷ Sync 0 ∷ Settle 0 ∷ AnswerIt ∷ []
unfolding bucket_of
fifteen_events = refl

-- a key of another room, in a file of format 2
row_of_room : seen_after (record { bytewise = false; shape = record { slots = 1; buckets = 1; passes = 64 }; text = made_text Two 1 }) (Calls 1 (Add 3000000000000000017) ∷ turns 1 15)
    ≡ (open_byte ∷ header_body Two 1) ++ open_byte ∷ 3 ∷ replicate 13 0 ++ 17 ∷ []
unfolding bucket_of
row_of_room = refl

abbrev pub head_2 : List ℕ
head_2 = open_byte ∷ header_body One 2

-- a crash after the key was written, which leaves a5 at each loose byte
row_key_loose : marks_after (fresh 2 64) (Calls 1 (Add 9) ∷ turns 1 5 ++ Crashes (head_2 ++ (0 ∷ replicate 15 0xa5) ++ replicate 16 0) ∷ Opens ∷ [])
    ≡ Call 1 1 (Add 9) ∷ Crash ∷ Opened [] ∷ []
unfolding bucket_of
row_key_loose = refl

-- a crash after the gate was written: the gate is loose
row_gate_loose : marks_after (fresh 2 64) (Calls 1 (Add 9) ∷ turns 1 10 ++ Crashes (head_2 ++ (0xa5 ∷ slot_body 9) ++ replicate 16 0) ∷ Opens ∷ [])
    ≡ Call 1 1 (Add 9) ∷ Crash ∷ Opened (9 ∷ []) ∷ []
unfolding bucket_of
row_gate_loose = refl

row_gate_other : marks_after (fresh 2 64) (Calls 1 (Add 9) ∷ turns 1 10 ++ Crashes (head_2 ++ (0x37 ∷ slot_body 9) ++ replicate 16 0) ∷ Opens ∷ [])
    ≡ Call 1 1 (Add 9) ∷ Crash ∷ Opened [] ∷ []
unfolding bucket_of
row_gate_other = refl

-- a crash within the write of the gate: of a call that was never answered either all is found or nothing
row_gate_within : marks_after (fresh 2 64) (Calls 1 (Add 9) ∷ turns 1 9 ++ CrashesIn 1 (head_2 ++ (0xa5 ∷ slot_body 9) ++ replicate 16 0) ∷ Opens ∷ [])
    ≡ Call 1 1 (Add 9) ∷ Crash ∷ Opened (9 ∷ []) ∷ []
unfolding bucket_of
row_gate_within = refl

row_no_gate_within : marks_after (fresh 2 64) (Calls 1 (Add 9) ∷ turns 1 9 ++ CrashesIn 1 (head_2 ++ (0 ∷ slot_body 9) ++ replicate 16 0) ∷ Opens ∷ [])
    ≡ Call 1 1 (Add 9) ∷ Crash ∷ Opened [] ∷ []
unfolding bucket_of
row_no_gate_within = refl

-- actor 3 meets a node whose removal isn't durable, and its sync makes it so
abbrev pub removal_steps : List Transition
removal_steps = Calls 1 (Add 9) ∷ turns 1 12 ++ Calls 2 (Remove 9) ∷ turns 2 9 ++ Calls 3 (Has 9) ∷ turns 3 8

row_removal_settled : marks_after (fresh 2 64) removal_steps ≡ Call 1 1 (Add 9) ∷ Call 2 2 (Remove 9) ∷ Call 3 3 (Has 9) ∷ Answer 3 false ∷ []
unfolding bucket_of
row_removal_settled = refl

row_removal_sure : sure_after (fresh 2 64) removal_steps ≡ head_2 ++ (0 ∷ slot_body 9) ++ replicate 16 0
unfolding bucket_of
row_removal_sure = refl

-- a reader stands on a node that is removed; the key comes again in another slot
abbrev pub reader_steps : List Transition
reader_steps =
    Calls 1 (Add 9) ∷ turns 1 15 ++ Calls 3 (Has 9) ∷ turns 3 4 ++ Calls 1 (Remove 9) ∷ turns 1 15 ++ Calls 2 (Add 9) ∷ turns 2 15
    ++ turns 3 2

row_reader_stands : marks_after (fresh 2 64) (reader_steps ++ Crashes (head_2 ++ (0 ∷ slot_body 9) ++ (0xa5 ∷ slot_body 9)) ∷ Opens ∷ [])
    ≡ Call 1 1 (Add 9) ∷ Answer 1 true ∷ Call 2 3 (Has 9) ∷ Call 3 1 (Remove 9) ∷ Answer 3 true ∷ Call 4 2 (Add 9) ∷ Answer 4 true
    ∷ Answer 2 false ∷ Crash ∷ Opened (9 ∷ []) ∷ []
unfolding bucket_of
row_reader_stands = refl

row_second_slot : sure_after (fresh 2 64) reader_steps ≡ head_2 ++ (0 ∷ slot_body 9) ++ (0xa5 ∷ slot_body 9)
unfolding bucket_of
row_second_slot = refl

-- the slot in limbo can't be had while the reader is inside, and can afterwards
abbrev full_steps : List Transition
full_steps =
    Calls 1 (Add 9) ∷ turns 1 15 ++ Calls 3 (Has 9) ∷ turns 3 4 ++ Calls 1 (Remove 9) ∷ turns 1 15 ++ Calls 2 (Add 9) ∷ turns 2 15
    ++ Calls 4 (Add 10) ∷ turns 4 72 ++ turns 3 2 ++ Calls 4 (Add 10) ∷ turns 4 19

row_full_then_yes : marks_after (fresh 2 64) full_steps
    ≡ Call 1 1 (Add 9) ∷ Answer 1 true ∷ Call 2 3 (Has 9) ∷ Call 3 1 (Remove 9) ∷ Answer 3 true ∷ Call 4 2 (Add 9) ∷ Answer 4 true
    ∷ Call 5 4 (Add 10) ∷ Refused 5 Full ∷ Answer 2 false ∷ Call 6 4 (Add 10) ∷ Answer 6 true ∷ []
unfolding bucket_of
row_full_then_yes = refl

-- a sync that fails: the service halts, and the file holds what the disk kept
abbrev pub until_release : List Transition
until_release = Calls 1 (Add 9) ∷ turns 1 12

abbrev failed_sync_steps : List Transition
failed_sync_steps =
    until_release ++ Trips ∷ Fails 1 (disk_of (play (fresh 2 64) until_release).state) ∷ turns 1 2 ++ Calls 2 (Has 9)
    ∷ turns 2 3 ++ Stops ∷ Opens ∷ []

row_sync_fails : marks_after (fresh 2 64) failed_sync_steps
    ≡ Call 1 1 (Add 9) ∷ Cut 1 Device ∷ Call 2 2 (Has 9) ∷ Cut 2 Halted ∷ Stop ∷ Opened (9 ∷ []) ∷ []
unfolding bucket_of
row_sync_fails = refl

-- a stop keeps loose bytes, and the open's sync makes them durable
row_open_syncs : marks_after (fresh 2 64)
    (Calls 1 (Add 9) ∷ turns 1 10 ++ Stops ∷ Opens ∷ Calls 1 (Has 9) ∷ turns 1 6 ++ Crashes (head_2 ++ (0xa5 ∷ slot_body 9) ++ replicate 16 0) ∷ Opens ∷ [])
    ≡ Call 1 1 (Add 9) ∷ Stop ∷ Opened (9 ∷ []) ∷ Call 2 1 (Has 9) ∷ Answer 2 true ∷ Crash ∷ Opened (9 ∷ []) ∷ []
unfolding bucket_of
row_open_syncs = refl

-- two adders of one key: the second finds the lock taken, and then the key
row_two_adders : marks_after (fresh 2 64) (Calls 1 (Add 9) ∷ turns 1 9 ++ Calls 2 (Add 9) ∷ turns 2 8 ++ turns 1 6 ++ turns 2 7)
    ≡ Call 1 1 (Add 9) ∷ Call 2 2 (Add 9) ∷ Answer 1 true ∷ Answer 2 false ∷ []
unfolding bucket_of
row_two_adders = refl

-- a settling that comes early
row_early : marks_after (fresh 1 64) (Calls 1 (Add 9) ∷ turns 1 13 ++ Calls 2 (Remove 9) ∷ turns 2 8 ++ turns 1 4)
    ≡ Call 1 1 (Add 9) ∷ Call 2 2 (Remove 9) ∷ Answer 1 true ∷ []
unfolding bucket_of
row_early = refl

row_early_sure : sure_after (fresh 1 64) (Calls 1 (Add 9) ∷ turns 1 13 ++ Calls 2 (Remove 9) ∷ turns 2 8 ++ turns 1 4)
    ≡ (open_byte ∷ header_body One 1) ++ 0 ∷ slot_body 9
unfolding bucket_of
row_early_sure = refl

-- What a run publishes, and that its words are those after the trace. Each side is compared with a written value: two
-- computed sides are dear to compare.
abbrev pub words_of_state : State → List (List ℕ)
words_of_state (Up service disk) =
    service.yard.words.heads ∷ service.yard.words.links ∷ service.yard.words.keys ∷ (service.yard.words.halt ∷ []) ∷ []
words_of_state (Down shape disk) = []

abbrev four_words : Words → List (List ℕ)
four_words w = w.heads ∷ w.links ∷ w.keys ∷ (w.halt ∷ []) ∷ []

abbrev pub reader_trace : Trace
reader_trace =
    settled 1 Added ∷ linked 9 1 2 ∷ link_prepared 1 0 ∷ key_prepared 1 9 ∷ unlinked 9 0 1 ∷ settled 0 Removed ∷ marked 9 0 1
    ∷ settled 0 Added ∷ linked 9 0 1 ∷ link_prepared 0 0 ∷ key_prepared 0 9 ∷ []

abbrev reader_words : List (List ℕ)
reader_words = (2 ∷ []) ∷ ((2 ^ 32 + 2 ^ 33 + 2 ^ 34) ∷ (2 ^ 33) ∷ []) ∷ (9 ∷ 9 ∷ []) ∷ (0 ∷ []) ∷ []

reader_trace_is : (play (fresh 2 64) reader_steps).trace ≡ reader_trace
unfolding bucket_of
reader_trace_is = refl

reader_words_are : words_of_state (play (fresh 2 64) reader_steps).state ≡ reader_words
unfolding bucket_of
reader_words_are = refl

reader_words_after : four_words (words_of_trace 2 1 64 reader_trace) ≡ reader_words
unfolding bucket_of
reader_words_after = refl

-- after the removal the key is no member, and that is settled; after the second adding it is one
gone_settled : SettledNo (drop 4 reader_trace) (drop 4 reader_trace) 9
unfolding bucket_of
gone_settled = record { begins = inl refl; no_member = refl; settled = inr refl }

there_settled : SettledYes reader_trace reader_trace 9
unfolding bucket_of
there_settled = record { begins = inl refl; member = refl; settled = refl }

-- the removal is not settled by its mark alone, and is by what comes later
not_by_its_mark : (is_removed (linking 9 (drop 6 reader_trace)) (drop 6 reader_trace) ≡ false) × (is_removed (linking 9 (drop 6 reader_trace)) (drop 5 reader_trace) ≡ true)
unfolding bucket_of
not_by_its_mark = (refl, refl)

settled_later : SettledNo (drop 4 reader_trace) reader_trace 9
unfolding bucket_of
settled_later = record { begins = inr (inr (inr (inr (inl refl)))); no_member = refl; settled = inr refl }

-- Worked rows that the machine computes: what a crash leaves and an open finds.
use Rattle.std.proofs.lemmas.Bool.Decides.{nat_tests}
use Rattle.std.proofs.Common.{◌≡◌, arith, lit<, ℕ, ◌+◌, ◌^◌, true, false, List, [], ◌∷◌, ◌++◌, replicate, refl, Option, Some, None, drop}
use Rattle.lz_slot.specs.declared.{format.Format.TheVariants.{One}, command.Command.TheVariants.{Add, Remove, Has}, history.HistoryEvent.{HistoryEvent}}
use Rattle.lz_slot.specs.declared.history.{HistoryEvent.TheVariants.{Call, Answer, Refused, Cut, Stop, Crash, Opened}, Refusal.TheVariants.{OldFile}}
use Rattle.lz_slot.specs.{declared.history.Cut.TheVariants.{Halted, Device}, Bytes.{slot_body}}
use Rattle.lz_list.specs.Traces.{Lawful, MayLink, bucket_of, keys_shown}
use Rattle.lz_vault.specs.{declared.vault.Stage.TheVariants.{Closed, Keyed}, Stages.{Cell}}
use Rattle.lz_disk.specs.{Picks.{left_by}, declared.memory.Pick.{Pick, TheVariants.{Old, Byte}}}
use Rattle.lz_allot.specs.{declared.sight.Sight.TheVariants.{Unseen, Inside, Left}, Uses.{Use, Free, Taken, Limbo}}
use Rattle.lz_machine.specs.declared.event.{Event.TheVariants.{Answer as AnswerIt}, Outcome.{Outcome, TheVariants.{Busy, Slot, NoSlot}}, Reply.{Reply}}
use Rattle.lz_machine.specs.{declared.event.Reply.TheVariants.{Full as SaysFull}, Yards.{Yard, opened_yard}, Table.{line}, Laws.{outcome_at}}
use Rattle.lz_machine.specs.Runs.{Start, State, Up, Down, Transition, Calls, Turn, Fails, Trips, Stops, Crashes, Opens, made_text, caller_at, reply_at, disk_of}
use Rattle.lz_machine.proofs.Theorem.TraceRows.{fresh, head_2, marks_after, play, reader_steps, reader_trace, removal_steps, turns, until_release}
use Rattle.lz_machine.proofs.Theorem.TraceRows.{words_of_state}

-- Another caller's sync covers a closing before its node is marked: the stage is Closed, the node is linked and unmarked,
-- and `has` still answers yes.
abbrev closed_unmarked : List Transition
closed_unmarked = Calls 1 (Add 9) ∷ turns 1 15 ++ Calls 2 (Remove 9) ∷ turns 2 8 ++ Calls 3 (Add 7) ∷ turns 3 7 ++ Calls 4 (Has 9) ∷ turns 4 6

abbrev cells_of : State → List Cell
cells_of (Up service disk) = service.yard.vault.cells
cells_of (Down shape disk) = []

closed_before_the_mark : cells_of (play (fresh 2 64) closed_unmarked).state
    ≡ record { stage = Closed; key = 9 } ∷ record { stage = Keyed; key = 7 } ∷ []
unfolding bucket_of
closed_before_the_mark = refl

yes_before_the_mark : marks_after (fresh 2 64) closed_unmarked
    ≡ Call 1 1 (Add 9) ∷ Answer 1 true ∷ Call 2 2 (Remove 9) ∷ Call 3 3 (Add 7) ∷ Call 4 4 (Has 9) ∷ Answer 4 true ∷ []
unfolding bucket_of
yes_before_the_mark = refl

-- keys are found ascending, whatever slots they stand in
found_ascending : marks_after (fresh 2 64) (Calls 1 (Add 9) ∷ turns 1 15 ++ Calls 1 (Add 7) ∷ turns 1 18 ++ Stops ∷ Opens ∷ [])
    ≡ Call 1 1 (Add 9) ∷ Answer 1 true ∷ Call 2 1 (Add 7) ∷ Answer 2 true ∷ Stop ∷ Opened (7 ∷ 9 ∷ []) ∷ []
unfolding bucket_of
found_ascending = refl

-- the trace of that run is lawful
reader_lawful : Lawful 1 2 reader_trace
unfolding bucket_of
reader_lawful = (
  tt,
  (
    second,
    ((λ b. grind (arith, nat_tests)), ((λ b. grind (arith, nat_tests)), (record { stands = refl; key = refl; no_member = refl; removed = refl }, (tt, ((refl, refl, refl), (tt, (first, ((λ b. refl), ((λ b. refl), tt))))))))),
  ),
)
  where
    first : MayLink 1 2 9 0 (drop 9 reader_trace)
    first = record { in_range = lit< tt; loose = λ b. refl; no_member = refl; no_node = refl; key = refl; link = refl; no_mark = refl; not_added = refl; not_removed = refl }

    second : MayLink 1 2 9 1 (drop 2 reader_trace)
    second = record { in_range = lit< tt; loose = λ b. grind (arith, nat_tests); no_member = refl; no_node = refl; key = refl; link = refl; no_mark = refl; not_added = refl; not_removed = refl }

-- the text that a crash leaves by a pick
crash_a5_loose : left_by (Byte 0xa5) (disk_of (play (fresh 2 64) (Calls 1 (Add 9) ∷ turns 1 5)).state)
    ≡ head_2 ++ (0 ∷ replicate 15 0xa5) ++ replicate 16 0
unfolding bucket_of
crash_a5_loose = refl

crash_37_gate : left_by (Byte 0x37) (disk_of (play (fresh 2 64) (Calls 1 (Add 9) ∷ turns 1 10)).state)
    ≡ head_2 ++ (0x37 ∷ slot_body 9) ++ replicate 16 0
unfolding bucket_of
crash_37_gate = refl

crash_old_reader : left_by Old (disk_of (play (fresh 2 64) reader_steps).state) ≡ head_2 ++ (0 ∷ slot_body 9) ++ (0xa5 ∷ slot_body 9)
unfolding bucket_of
crash_old_reader = refl

-- after an open each bucket's members are linked ascending, with add_settled set
words_reopened : words_of_state (play (fresh 2 64) (Calls 1 (Add 9) ∷ turns 1 15 ++ Calls 1 (Add 7) ∷ turns 1 18 ++ Stops ∷ Opens ∷ [])).state
    ≡ (2 ∷ []) ∷ ((2 ^ 33) ∷ (1 + 2 ^ 33) ∷ []) ∷ (9 ∷ 7 ∷ []) ∷ (0 ∷ []) ∷ []
unfolding bucket_of
words_reopened = refl

abbrev two_buckets : Start
two_buckets = record { bytewise = false; shape = record { slots = 3; buckets = 2; passes = 2 }; text = made_text One 3 }

-- three keys in two buckets, after an open: 4 and 8 in the first, 5 in the second
words_two_buckets : words_of_state (play two_buckets
    (Calls 1 (Add 8) ∷ turns 1 15 ++ Calls 1 (Add 5) ∷ turns 1 15 ++ Calls 2 (Add 4) ∷ turns 2 17 ++ Stops ∷ Opens ∷ [])).state
    ≡ (3 ∷ 2 ∷ []) ∷ ((2 ^ 33) ∷ (2 ^ 33) ∷ (1 + 2 ^ 33) ∷ []) ∷ (8 ∷ 5 ∷ 4 ∷ []) ∷ (0 ∷ []) ∷ []
unfolding bucket_of
words_two_buckets = refl

-- a crash that leaves what the pick says, and an open
abbrev crashed : Pick → Start → List Transition → List Transition
crashed pick start steps = steps ++ Crashes (left_by pick (disk_of (play start steps).state)) ∷ Opens ∷ []

abbrev marks_crashed : Pick → Start → List Transition → List HistoryEvent
marks_crashed pick start steps = marks_after start (crashed pick start steps)

-- the keys that are shown at the end
abbrev shown_after : Start → List Transition → List ℕ
shown_after start steps = keys_shown (play start steps).trace

abbrev uses_of : State → List Use
uses_of (Up service disk) = service.yard.uses
uses_of (Down shape disk) = []

abbrev pins_of_state : State → List ℕ
pins_of_state (Up service disk) = service.yard.words.pins
pins_of_state (Down shape disk) = []

-- the reply that an actor is about to give
abbrev reply_of : State → ℕ → Option Reply
reply_of (Down shape disk) a = None
reply_of (Up service disk) a = elim (caller_at service.callers a) [ None ↦ None | Some caller ↦ reply_at caller.progress ]

-- the key was loose, and its gate surely closed: nothing is found or shown
abbrev key_steps : List Transition
key_steps = Calls 1 (Add 9) ∷ turns 1 5

key_loose_found : marks_crashed (Byte 0xa5) (fresh 2 64) key_steps ≡ Call 1 1 (Add 9) ∷ Crash ∷ Opened [] ∷ []
unfolding bucket_of
key_loose_found = refl

key_loose_shown : shown_after (fresh 2 64) (crashed (Byte 0xa5) (fresh 2 64) key_steps) ≡ []
unfolding bucket_of
key_loose_shown = refl

-- the gate was loose
abbrev gate_steps : List Transition
gate_steps = Calls 1 (Add 9) ∷ turns 1 10

gate_loose_open : marks_crashed (Byte 0xa5) (fresh 2 64) gate_steps ≡ Call 1 1 (Add 9) ∷ Crash ∷ Opened (9 ∷ []) ∷ []
unfolding bucket_of
gate_loose_open = refl

gate_loose_other : marks_crashed (Byte 0x37) (fresh 2 64) gate_steps ≡ Call 1 1 (Add 9) ∷ Crash ∷ Opened [] ∷ []
unfolding bucket_of
gate_loose_other = refl

-- a file of format 1 can't hold a key of room 3, and holds none
row_old_file : marks_after (fresh 2 64) (Calls 1 (Add 3000000000000000017) ∷ turns 1 1 ++ Calls 1 (Has 3000000000000000017) ∷ turns 1 4
    ++ Calls 1 (Remove 3000000000000000017) ∷ turns 1 4 ++ Calls 1 (Add 5) ∷ turns 1 15 ++ Calls 1 (Has 5) ∷ turns 1 6)
    ≡ Call 1 1 (Add 3000000000000000017) ∷ Refused 1 OldFile ∷ Call 2 1 (Has 3000000000000000017) ∷ Answer 2 false
    ∷ Call 3 1 (Remove 3000000000000000017) ∷ Answer 3 false ∷ Call 4 1 (Add 5) ∷ Answer 4 true ∷ Call 5 1 (Has 5) ∷ Answer 5 true ∷ []
unfolding bucket_of
row_old_file = refl

-- of an old file a call is told on a halted service too
row_old_halted : marks_after (fresh 2 64) (until_release ++ Trips ∷ Fails 1 (disk_of (play (fresh 2 64) until_release).state) ∷ turns 1 2 ++ Calls 2 (Add 3000000000000000017) ∷ turns 2 1)
    ≡ Call 1 1 (Add 9) ∷ Cut 1 Device ∷ Call 2 2 (Add 3000000000000000017) ∷ Refused 2 OldFile ∷ []
unfolding bucket_of
row_old_halted = refl

-- the reader's sync made the closing durable
removal_found : marks_crashed Old (fresh 2 64) removal_steps
    ≡ Call 1 1 (Add 9) ∷ Call 2 2 (Remove 9) ∷ Call 3 3 (Has 9) ∷ Answer 3 false ∷ Crash ∷ Opened [] ∷ []
unfolding bucket_of
removal_found = refl

-- the counts of the call that finds no slot, while the reader is inside
abbrev until_full : List Transition
until_full = Calls 1 (Add 9) ∷ turns 1 15 ++ Calls 3 (Has 9) ∷ turns 3 4 ++ Calls 1 (Remove 9) ∷ turns 1 15 ++ Calls 2 (Add 9) ∷ turns 2 15 ++ Calls 4 (Add 10) ∷ turns 4 71

full_counts : reply_of (play (fresh 2 64) until_full).state 4 ≡ Some (SaysFull (record { free = 0; taken = 1; limbo = 1 }))
unfolding bucket_of
full_counts = refl

-- after a sync that failed: a stop keeps the gate, a crash that leaves the durable bytes doesn't
abbrev halted_steps : List Transition
halted_steps = until_release ++ Trips ∷ Fails 1 (disk_of (play (fresh 2 64) until_release).state) ∷ turns 1 2 ++ Calls 2 (Has 9) ∷ turns 2 3

halted_stop_shown : shown_after (fresh 2 64) (halted_steps ++ Stops ∷ Opens ∷ []) ≡ 9 ∷ []
unfolding bucket_of
halted_stop_shown = refl

halted_crash_found : marks_crashed Old (fresh 2 64) halted_steps ≡ Call 1 1 (Add 9) ∷ Cut 1 Device ∷ Call 2 2 (Has 9) ∷ Cut 2 Halted ∷ Crash ∷ Opened [] ∷ []
unfolding bucket_of
halted_crash_found = refl

halted_crash_shown : shown_after (fresh 2 64) (crashed Old (fresh 2 64) halted_steps) ≡ []
unfolding bucket_of
halted_crash_shown = refl

-- the open's sync made the gate durable
abbrev reopened_steps : List Transition
reopened_steps = gate_steps ++ Stops ∷ Opens ∷ Calls 1 (Has 9) ∷ turns 1 6

reopened_found : marks_crashed Old (fresh 2 64) reopened_steps ≡ Call 1 1 (Add 9) ∷ Stop ∷ Opened (9 ∷ []) ∷ Call 2 1 (Has 9) ∷ Answer 2 true ∷ Crash ∷ Opened (9 ∷ []) ∷ []
unfolding bucket_of
reopened_found = refl

reopened_shown : shown_after (fresh 2 64) (crashed Old (fresh 2 64) reopened_steps) ≡ 9 ∷ []
unfolding bucket_of
reopened_shown = refl

-- two adders of one key: the second one's claim is busy, and its slot is given back
two_adders_busy : outcome_at (play (fresh 2 64) (Calls 1 (Add 9) ∷ turns 1 9 ++ Calls 2 (Add 9) ∷ turns 2 7)).state (Turn 2) ≡ Some Busy
unfolding bucket_of
two_adders_busy = refl

two_adders_uses : uses_of (play (fresh 2 64) (Calls 1 (Add 9) ∷ turns 1 9 ++ Calls 2 (Add 9) ∷ turns 2 8 ++ turns 1 6 ++ turns 2 7)).state ≡ Taken ∷ Free ∷ []
unfolding bucket_of
two_adders_uses = refl

-- a closing that is loose: a crash may leave the gate closed or open
abbrev closing_steps : List Transition
closing_steps = Calls 1 (Add 9) ∷ turns 1 15 ++ Calls 2 (Remove 9) ∷ turns 2 8

closing_left_closed : marks_crashed (Byte 0x37) (fresh 1 64) closing_steps ≡ Call 1 1 (Add 9) ∷ Answer 1 true ∷ Call 2 2 (Remove 9) ∷ Crash ∷ Opened [] ∷ []
unfolding bucket_of
closing_left_closed = refl

closing_left_open : marks_crashed Old (fresh 1 64) closing_steps ≡ Call 1 1 (Add 9) ∷ Answer 1 true ∷ Call 2 2 (Remove 9) ∷ Crash ∷ Opened (9 ∷ []) ∷ []
unfolding bucket_of
closing_left_open = refl

-- an adder's second sync makes the closing durable
early_found : marks_crashed Old (fresh 1 64) (Calls 1 (Add 9) ∷ turns 1 13 ++ Calls 2 (Remove 9) ∷ turns 2 8 ++ turns 1 4)
    ≡ Call 1 1 (Add 9) ∷ Call 2 2 (Remove 9) ∷ Answer 1 true ∷ Crash ∷ Opened [] ∷ []
unfolding bucket_of
early_found = refl

-- one slot: the tenth turn writes the gate
ten_turns : marks_crashed (Byte 0xa5) (fresh 1 64) (Calls 1 (Add 9) ∷ turns 1 10) ≡ Call 1 1 (Add 9) ∷ Crash ∷ Opened (9 ∷ []) ∷ []
unfolding bucket_of
ten_turns = refl

nine_turns : marks_crashed (Byte 0xa5) (fresh 1 64) (Calls 1 (Add 9) ∷ turns 1 9) ≡ Call 1 1 (Add 9) ∷ Crash ∷ Opened [] ∷ []
unfolding bucket_of
nine_turns = refl

-- a reader answers no only when its sync has made the closing durable
reader_syncs : marks_crashed Old (fresh 2 64) (Calls 1 (Add 9) ∷ turns 1 15 ++ Calls 2 (Remove 9) ∷ turns 2 9 ++ Calls 3 (Has 9) ∷ turns 3 8)
    ≡ Call 1 1 (Add 9) ∷ Answer 1 true ∷ Call 2 2 (Remove 9) ∷ Call 3 3 (Has 9) ∷ Answer 3 false ∷ Crash ∷ Opened [] ∷ []
unfolding bucket_of
reader_syncs = refl

-- the event after the mark makes the closing durable, and the node is still linked then
mark_then_sync : marks_crashed Old (fresh 2 64) (Calls 1 (Add 9) ∷ turns 1 15 ++ Calls 2 (Remove 9) ∷ turns 2 10 ++ Calls 3 (Has 9) ∷ turns 3 8)
    ≡ Call 1 1 (Add 9) ∷ Answer 1 true ∷ Call 2 2 (Remove 9) ∷ Call 3 3 (Has 9) ∷ Answer 3 false ∷ Crash ∷ Opened [] ∷ []
unfolding bucket_of
mark_then_sync = refl

-- a gate that was opened and then closed with no sync between: an open byte keeps the adding and drops the removal, and a
-- closed one keeps both
abbrev choice_steps : List Transition
choice_steps = Calls 1 (Add 9) ∷ turns 1 12 ++ Calls 2 (Remove 9) ∷ turns 2 9

choice_open : marks_crashed (Byte 0xa5) (fresh 2 64) choice_steps ≡ Call 1 1 (Add 9) ∷ Call 2 2 (Remove 9) ∷ Crash ∷ Opened (9 ∷ []) ∷ []
unfolding bucket_of
choice_open = refl

choice_closed : marks_crashed (Byte 0x37) (fresh 2 64) choice_steps ≡ Call 1 1 (Add 9) ∷ Call 2 2 (Remove 9) ∷ Crash ∷ Opened [] ∷ []
unfolding bucket_of
choice_closed = refl

-- The slot in limbo waits for pass 1, which is outside. The answer of its refused call looks at its pin word, which stays.
abbrev limbo_steps : List Transition
limbo_steps = Calls 2 (Add 9) ∷ turns 2 15 ++ Calls 2 (Remove 9) ∷ turns 2 15

abbrev refused_steps : List Transition
refused_steps = limbo_steps ++ Calls 1 (Add 3000000000000000017) ∷ turns 1 1

-- what an adding's first Reserve answers then
abbrev reserves_after : List Transition → Option Outcome
reserves_after steps = outcome_at (play (fresh 1 2) (steps ++ Calls 2 (Add 9) ∷ turns 2 3)).state (Turn 2)

refused_frees : reserves_after refused_steps ≡ Some (Slot 0)
unfolding bucket_of
refused_frees = refl

waits_before : reserves_after limbo_steps ≡ Some (NoSlot (record { free = 0; taken = 0; limbo = 1 }))
unfolding bucket_of
waits_before = refl

not_free_before : reserves_after limbo_steps ≡ Some (Slot 0) → ⊥
unfolding bucket_of
not_free_before is = absurd cc

refused_pins : pins_of_state (play (fresh 1 2) refused_steps).state ≡ 0 ∷ 4 ∷ []
unfolding bucket_of
refused_pins = refl

-- so does the answer of a call whose pass is worn: of pass 1 here, while pass 2 is inside
abbrev worn_yard : Yard
worn_yard =
    let y : Yard = opened_yard (record { slots = 1; buckets = 1; passes = 2 }) (made_text One 1) in
    record y { words = record y.words { pins = 2 ^ 62 ∷ 3 ∷ [] }; uses = Limbo (Unseen ∷ Inside 3 ∷ []) ∷ [] }

worn_looks : (line worn_yard 1 AnswerIt).0.uses ≡ Limbo (Left ∷ Inside 3 ∷ []) ∷ []
worn_looks = refl

worn_stays : (line worn_yard 1 AnswerIt).0.words.pins ≡ 2 ^ 62 ∷ 3 ∷ []
worn_stays = refl

-- pass 2 goes out
inside_leaves : ((line worn_yard 2 AnswerIt).0.uses ≡ Limbo (Unseen ∷ Left ∷ []) ∷ []) × ((line worn_yard 2 AnswerIt).0.words.pins ≡ 2 ^ 62 ∷ 4 ∷ [])
inside_leaves = (refl, refl)

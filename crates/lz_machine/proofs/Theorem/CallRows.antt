-- Worked rows of format 4: the device calls of an adding, and what a crash amid one leaves.
use Rattle.std.proofs.Common.{◌≡◌, ℕ, true, List, [], ◌∷◌, ◌++◌, take, replicate, refl}
use Rattle.lz_slot.specs.declared.{format.Format.TheVariants.{Two, Four}, command.Command.TheVariants.{Add, Remove}}
use Rattle.lz_slot.specs.{declared.history.HistoryEvent.TheVariants.{Call, Answer, Crash, Opened}, Bytes.{open_byte, header_body, slot_body}, Whole.{whole_slot}}
use Rattle.lz_vault.specs.Vaults.{DeviceCall, WriteAt, SyncAll}
use Rattle.lz_list.specs.Traces.{bucket_of}
use Rattle.lz_machine.specs.{OneAdd.{one_slot, one_add, device_calls}, Runs.{Start, Calls, Turn, Crashes, Opens, first_point, run}}
use Rattle.lz_machine.proofs.Theorem.TraceRows.{marks_after, turns}

-- the call of one_add and its first turns, the newest first: the fifth puts the key, the sixth is its sync, the tenth opens the slot
abbrev calls_within : ℕ → List DeviceCall
calls_within n = device_calls (first_point (one_slot Four)) (replicate n (Turn 1) ++ Calls 1 (Add 9) ∷ [])

first_call : calls_within 9 ≡ []
unfolding bucket_of
first_call = refl

tenth_writes : calls_within 10 ≡ WriteAt 16 (whole_slot 9) ∷ []
unfolding bucket_of
tenth_writes = refl

-- a key that is put is written nowhere, and needs no sync
key_is_written : calls_within 5 ≡ WriteAt 17 (slot_body 9) ∷ [] → ⊥
unfolding bucket_of
key_is_written h = let same : ◌≡◌ {A = List DeviceCall} [] (WriteAt 17 (slot_body 9) ∷ []) = h in absurd cc

key_is_synced : calls_within 6 ≡ SyncAll ∷ [] → ⊥
unfolding bucket_of
key_is_synced h = let same : ◌≡◌ {A = List DeviceCall} [] (SyncAll ∷ []) = h in absurd cc

-- with a gate it is
gated_calls : device_calls (first_point (one_slot Two)) (replicate 9 (Turn 1) ++ Calls 1 (Add 9) ∷ []) ≡ SyncAll ∷ WriteAt 17 (slot_body 9) ∷ []
unfolding bucket_of
gated_calls = refl

abbrev head_4 : List ℕ
head_4 = open_byte ∷ header_body Four 1

abbrev with_text : List ℕ → Start
with_text slot = record { bytewise = true; shape = record { slots = 1; buckets = 1; passes = 1 }; text = head_4 ++ slot }

-- over a slot that a crash has torn, zeros are written first and made durable
torn_calls : device_calls (first_point (with_text (15 ∷ replicate 15 0))) one_add ≡ SyncAll ∷ WriteAt 16 (whole_slot 9) ∷ SyncAll ∷ WriteAt 16 (replicate 16 0) ∷ []
unfolding bucket_of
torn_calls = refl

torn_is_added : (run (first_point (with_text (15 ∷ replicate 15 0))) one_add).marks ≡ Answer 1 true ∷ Call 1 1 (Add 9) ∷ []
unfolding bucket_of
torn_is_added = refl

-- A crash amid the write of a slot leaves a part of it, which is no member, or all of it.
half_added : marks_after (one_slot Four) (Calls 1 (Add 9) ∷ turns 1 10 ++ Crashes (head_4 ++ take 8 (whole_slot 9) ++ replicate 8 0) ∷ Opens ∷ []) ≡ Call 1 1 (Add 9) ∷ Crash ∷ Opened [] ∷ []
unfolding bucket_of
half_added = refl

all_added : marks_after (one_slot Four) (Calls 1 (Add 9) ∷ turns 1 10 ++ Crashes (head_4 ++ whole_slot 9) ∷ Opens ∷ []) ≡ Call 1 1 (Add 9) ∷ Crash ∷ Opened (9 ∷ []) ∷ []
unfolding bucket_of
all_added = refl

-- and so does one amid the zeros of a removal
half_removed : marks_after (with_text (whole_slot 9)) (Calls 1 (Remove 9) ∷ turns 1 7 ++ Crashes (head_4 ++ replicate 8 0 ++ replicate 8 15) ∷ Opens ∷ []) ≡ Call 1 1 (Remove 9) ∷ Crash ∷ Opened [] ∷ []
unfolding bucket_of
half_removed = refl

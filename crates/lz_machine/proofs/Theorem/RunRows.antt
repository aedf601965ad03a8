-- Worked rows that are runs, of which each step may be taken: crashes inside a device call, and runs that follow on one another.
use Rattle.std.proofs.Common.{◌≡◌, ◌⊎◌, inl, inr, ℕ, suc, ◌≤◌, lit<, Bool, true, false, List, [], ◌∷◌, ◌++◌, replicate, Option, Some, None, is_some, refl, sym}
use Rattle.std.proofs.Common.{subst, arith}
use mathlib.Core.Bool.{false≢true}
use Rattle.lz_slot.specs.{Limits.{most_buckets, most_passes}, declared.{format.Format.TheVariants.{Two}, command.Command.TheVariants.{Add}}}
use Rattle.lz_slot.specs.{declared.history.HistoryEvent.TheVariants.{Call, Answer}, Bytes.{header_body, open_byte, slot_body, format_of}, Sets.{members}}
use Rattle.lz_disk.specs.Images.{Medium, IsImage, at_rest}
use Rattle.lz_vault.specs.Stages.{Suits}
use Rattle.lz_list.specs.Traces.{bucket_of}
use Rattle.lz_machine.specs.{JoinedRuns.{Ran, Follow, all_lives}, OneAdd.{one_slot, one_add}, Runs.{Start, IsStart, State, Up, Down, Transition, Calls, Turn}}
use Rattle.lz_machine.specs.Runs.{CrashesIn, Caller, IsRun, LeftInside, MayLeave, MayStep, after_turn, caller_at, disk_of, first_point, made_text, run}
use Rattle.lz_machine.{specs.Runs.{state_after}, proofs.{Open.FoundSlots.{pass_of}, Theorem.JoinedRuns.{left_is_start}}}
use Rattle.lz_machine.proofs.Theorem.OneAdd.{one_add_runs, image_left, run_sound}

abbrev callers_of : State → List (Option Caller)
callers_of (Up service disk) = service.callers
callers_of (Down shape disk) = []

-- an actor has a call
abbrev calls : State → ℕ → Bool
calls (Up service disk) a = is_some (caller_at service.callers a)
calls (Down shape disk) a = false

-- the disk after an actor's turn
abbrev disk_after : State → ℕ → Medium
disk_after (Up service disk) a = disk_of (after_turn service disk a (caller_at service.callers a))
disk_after (Down shape disk) a = disk

turn_disk : (n : ℕ) (w : State) (a : ℕ) → disk_of (state_after n w (Turn a)) ≡ disk_after w a
turn_disk n (Up service disk) a = refl
turn_disk n (Down shape disk) a = refl

-- A crash inside an actor's device call may leave an image of the disk before it or after it,
before_call : (w : State) (a : ℕ) (t : List ℕ) → calls w a ≡ true → IsImage (disk_of w) t → MayStep w (CrashesIn a t)
before_call (Down shape disk) a t some image = absurd (false≢true some)
before_call (Up service disk) a t some image = go (caller_at service.callers a) some
  where
    go : (who : Option Caller) → is_some who ≡ true → LeftInside service disk a who t
    go None some = absurd (false≢true some)
    go (Some caller) some = inl image

after_call : (w : State) (a : ℕ) (t : List ℕ) → calls w a ≡ true → IsImage (disk_after w a) t → MayStep w (CrashesIn a t)
after_call (Down shape disk) a t some image = absurd (false≢true some)
after_call (Up service disk) a t some image = go (caller_at service.callers a) some image
  where
    go : (who : Option Caller) → is_some who ≡ true → IsImage (disk_of (after_turn service disk a who)) t → LeftInside service disk a who t
    go None some image = absurd (false≢true some)
    go (Some caller) some image = inr image

-- and nothing else.
only_these : (w : State) (a : ℕ) (t : List ℕ) → MayStep w (CrashesIn a t) → IsImage (disk_of w) t ⊎ IsImage (disk_after w a) t
only_these (Down shape disk) a t may = absurd may
only_these (Up service disk) a t may = go (caller_at service.callers a) may
  where
    go : (who : Option Caller) → LeftInside service disk a who t → IsImage disk t ⊎ IsImage (disk_of (after_turn service disk a who)) t
    go None left = absurd left
    go (Some caller) left = left

idle : (w : State) (a : ℕ) (t : List ℕ) → calls w a ≡ false → MayStep w (CrashesIn a t) → ⊥
idle (Down shape disk) a t none may = may
idle (Up service disk) a t none may = go (caller_at service.callers a) none may
  where
    go : (who : Option Caller) → is_some who ≡ false → LeftInside service disk a who t → ⊥
    go None none left = left
    go (Some caller) none left = false≢true (sym none)

-- where nobody calls, a crash leaves an image of the disk
idle_leaves : (n : ℕ) (w : State) (t : List ℕ) → callers_of w ≡ replicate n None → MayLeave w t → IsImage (disk_of w) t
idle_leaves n (Up service disk) t idle (inl image) = image
idle_leaves n (Up service disk) t idle (inr (a, left)) = grind (arith, pass_of)
idle_leaves n (Down shape disk) t idle image = image

-- after these steps from a start
module _ (start : Start) (steps : List Transition) (starts : IsStart start) (runs : IsRun (first_point start) steps) where
  abbrev w : State
  w = (run (first_point start) steps).state

  sure_inside : (a : ℕ) (t : List ℕ) → calls w a ≡ true → (disk_of w).sure ≡ t → IsRun (first_point start) (CrashesIn a t ∷ steps)
  sure_inside a t some is = (before_call w a t some (subst (IsImage (disk_of w)) is (run_sound start steps starts runs).sure), runs)

  seen_inside : (a : ℕ) (t : List ℕ) → calls w a ≡ true → (disk_of w).seen ≡ t → IsRun (first_point start) (CrashesIn a t ∷ steps)
  seen_inside a t some is = (before_call w a t some (subst (IsImage (disk_of w)) is (run_sound start steps starts runs).seen), runs)

  written_inside : (a : ℕ) (t : List ℕ) → calls w a ≡ true → IsRun (first_point start) (Turn a ∷ steps) → (disk_of (run (first_point start) (Turn a ∷ steps)).state).seen ≡ t
      → IsRun (first_point start) (CrashesIn a t ∷ steps)
  written_inside a t some more is =
      let disk = disk_of (run (first_point start) (Turn a ∷ steps)).state in
      let image : IsImage disk t = subst (IsImage disk) is (run_sound start (Turn a ∷ steps) starts more).seen in
      (after_call w a t some (subst (λ (disk : Medium). IsImage disk t) (turn_disk (suc (run (first_point start) steps).calls) w a) image), runs)

  only_inside : (a : ℕ) (t : List ℕ) → IsRun (first_point start) (CrashesIn a t ∷ steps) → IsImage (disk_of w) t ⊎ IsImage (disk_after w a) t
  only_inside a t h = only_these w a t h.0

  idle_inside : (a : ℕ) (t : List ℕ) → calls w a ≡ false → IsRun (first_point start) (CrashesIn a t ∷ steps) → ⊥
  idle_inside a t none h = idle w a t none h.0

  -- the run that they are
  ran : Ran
  ran = record {
    start = start;
    state = w;
    marks = (run (first_point start) steps).marks;
    trace = (run (first_point start) steps).trace;
    reached = record { steps = steps; starts = starts; runs = runs; state = refl; marks = refl; trace = refl };
  }

-- the call of one_add and its first turns, the newest first
abbrev first_turns : ℕ → List Transition
first_turns n = replicate n (Turn 1) ++ Calls 1 (Add 9) ∷ []

ten : IsRun (first_point (one_slot Two)) (first_turns 10)
unfolding bucket_of
ten = (one_add_runs Two).runs.1.1.1.1.1

nine : IsRun (first_point (one_slot Two)) (first_turns 9)
unfolding bucket_of
nine = ten.1

five : IsRun (first_point (one_slot Two)) (first_turns 5)
unfolding bucket_of
five = nine.1.1.1.1

-- the file with this gate and this key in its slot
abbrev with_slot : ℕ → ℕ → List ℕ
with_slot gate k = (open_byte ∷ header_body Two 1) ++ gate ∷ slot_body k

-- The tenth turn writes the gate. A crash inside it may leave the gate as it was, or open.
gate_closed_inside : IsRun (first_point (one_slot Two)) (CrashesIn 1 (with_slot 0 9) ∷ first_turns 9)
unfolding bucket_of
gate_closed_inside = seen_inside (one_slot Two) (first_turns 9) (one_add_runs Two).starts nine 1 (with_slot 0 9) refl refl

gate_open_inside : IsRun (first_point (one_slot Two)) (CrashesIn 1 (with_slot open_byte 9) ∷ first_turns 9)
unfolding bucket_of
gate_open_inside = written_inside (one_slot Two) (first_turns 9) (one_add_runs Two).starts nine 1 (with_slot open_byte 9) refl ten refl

-- but no other key, whose bytes are durable by then
other_key_inside : IsRun (first_point (one_slot Two)) (CrashesIn 1 (with_slot open_byte 10) ∷ first_turns 9) → ⊥
unfolding bucket_of
other_key_inside h = elim (only_inside (one_slot Two) (first_turns 9) (one_add_runs Two).starts nine 1 (with_slot open_byte 10) h) [
  | inl image ↦ wrong (image.sure 31 (lit< tt) refl)
  | inr image ↦ wrong (image.sure 31 (lit< tt) refl)
]
  where
    wrong : ◌≡◌ {A = ℕ} 10 9 → ⊥
    wrong same = absurd (omega (arith, same))

-- the sixth turn syncs the key: a crash inside it may still leave the file as it was made
key_lost_inside : IsRun (first_point (one_slot Two)) (CrashesIn 1 (made_text Two 1) ∷ first_turns 5)
unfolding bucket_of
key_lost_inside = sure_inside (one_slot Two) (first_turns 5) (one_add_runs Two).starts five 1 (made_text Two 1) refl refl

-- no crash is inside a call of an actor that has none
no_call_inside : (t : List ℕ) → IsRun (first_point (one_slot Two)) (CrashesIn 2 t ∷ first_turns 9) → ⊥
unfolding bucket_of
no_call_inside t h = idle_inside (one_slot Two) (first_turns 9) (one_add_runs Two).starts nine 2 t refl h

-- a run follows on another one where it begins with what was read then
follows : (start next : Start) (steps more : List Transition) (starts : IsStart start) (runs : IsRun (first_point start) steps) (starts' : IsStart next) (runs' : IsRun (first_point next) more)
    → (disk_of (run (first_point start) steps).state).seen ≡ next.text
    → MayLeave (ran start steps starts runs).state (ran next more starts' runs').start.text
unfolding ran
follows start next steps more starts runs starts' runs' is =
    let w = (run (first_point start) steps).state in
    image_left w next.text (subst (IsImage (disk_of w)) is (run_sound start steps starts runs).seen)

-- one may begin so
may_begin : (start : Start) (steps : List Transition) (starts : IsStart start) (runs : IsRun (first_point start) steps) (t : List ℕ) (buckets passes : ℕ)
    → (disk_of (run (first_point start) steps).state).seen ≡ t → (1 ≤ buckets) × (buckets ≤ most_buckets) → (1 ≤ passes) × (passes ≤ most_passes) → Suits (format_of t) (at_rest false t)
    → IsStart (record { bytewise = false; shape = record { slots = start.shape.slots; buckets = buckets; passes = passes }; text = t })
may_begin start steps starts runs t buckets passes is some few suits =
    let p = run (first_point start) steps in
    left_is_start start p.state p.marks p.trace t false buckets passes (record { steps = steps; starts = starts; runs = runs; state = refl; marks = refl; trace = refl })
    (image_left p.state t (subst (IsImage (disk_of p.state)) is (run_sound start steps starts runs).seen)) some few suits

-- where nobody calls, what doesn't follow
follows_idle : (start next : Start) (steps more : List Transition) (starts : IsStart start) (runs : IsRun (first_point start) steps) (starts' : IsStart next) (runs' : IsRun (first_point next) more) (n : ℕ)
    → callers_of (run (first_point start) steps).state ≡ replicate n None
    → MayLeave (ran start steps starts runs).state (ran next more starts' runs').start.text → IsImage (disk_of (run (first_point start) steps).state) next.text
unfolding ran
follows_idle start next steps more starts runs starts' runs' n idle left = idle_leaves n (run (first_point start) steps).state next.text idle left

-- what one_add leaves, in two buckets with three passes, and in 4,096 with one
abbrev later : ℕ → ℕ → Start
later buckets passes = record { bytewise = false; shape = record { slots = 1; buckets = buckets; passes = passes }; text = with_slot open_byte 9 }

later_starts : (buckets passes : ℕ) → (1 ≤ buckets) × (buckets ≤ most_buckets) → (1 ≤ passes) × (passes ≤ most_passes) → IsStart (later buckets passes)
unfolding bucket_of
later_starts buckets passes some few = may_begin (one_slot Two) one_add (one_add_runs Two).starts (one_add_runs Two).runs (with_slot open_byte 9) buckets passes refl some few (λ is. absurd cc)

added : Ran
added = ran (one_slot Two) one_add (one_add_runs Two).starts (one_add_runs Two).runs

second : IsStart (later 2 3)
second = later_starts 2 3 (omega arith, omega arith) (omega arith, omega arith)

third : IsStart (later 4096 1)
third = later_starts 4096 1 (omega arith, omega arith) (omega arith, omega arith)

-- an adding that is answered, and two more runs of no step yet
three_follow : Follow (ran (later 4096 1) [] third tt ∷ ran (later 2 3) [] second tt ∷ added ∷ [])
unfolding bucket_of added
three_follow = (
  follows (later 2 3) (later 4096 1) [] [] second tt third tt refl,
  (follows (one_slot Two) (later 2 3) one_add [] (one_add_runs Two).starts (one_add_runs Two).runs second tt refl, tt),
)

three_lives : all_lives (ran (later 4096 1) [] third tt ∷ ran (later 2 3) [] second tt ∷ added ∷ [])
    ≡ record { start = members (9 ∷ []); history = [] } ∷ record { start = members (9 ∷ []); history = [] }
    ∷ record { start = members []; history = Answer 1 true ∷ Call 1 1 (Add 9) ∷ [] } ∷ []
unfolding bucket_of added ran
three_lives = refl

-- the file as it was made doesn't follow on an adding that was answered
made_again_follows : Follow (ran (one_slot Two) [] (one_add_runs Two).starts tt ∷ added ∷ []) → ⊥
unfolding bucket_of added
made_again_follows h =
    let image = follows_idle (one_slot Two) (one_slot Two) one_add [] (one_add_runs Two).starts (one_add_runs Two).runs (one_add_runs Two).starts tt 1 refl h.0 in
    wrong (image.sure 16 (lit< tt) refl)
  where
    wrong : ◌≡◌ {A = ℕ} 0 open_byte → ⊥
    wrong same = absurd (omega (arith, same))

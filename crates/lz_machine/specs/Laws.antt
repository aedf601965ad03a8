-- The main theorem over every history, and the two laws on which threads rest.
use Rattle.std.specs.{Prelude.{◌≡◌, ◌≢◌, ◌==◌, ℕ, Bool, true, false, List, [], ◌∷◌, ◌++◌, Option, Some, None, IsSome}, List.{list_any}}
use Rattle.lz_slot.specs.{Sets.{Keys}, Histories.{History, ChainTo, lives, last_history}, Bytes.{Holds}}
use Rattle.lz_list.specs.{Traces.{Trace}, declared.word.Word.{Word}}
use Rattle.lz_machine.specs.{declared.event.{Event.{Event, TheVariants.{Hop}}, Outcome.{Outcome, TheVariants.{Fault}}}, Table.{line}, Lasts.{Lasts}}
use Rattle.lz_machine.specs.Runs.{Start, State, Up, Down, Transition, Calls, Turn, Fails, Looks, Stops, Crashes, CrashesIn, Point, Service, Caller, Reached}
use Rattle.lz_machine.specs.Runs.{MayLeave, MayStep, IsRun, run, caller_at, next_event, start_keys, IsStart, first_point}

-- Whatever the run, each text that a crash may leave holds a set, and the lives lead from the first set to that one: each
-- life has a list of commands that fits it.
abbrev pub EveryHistory : Type 0
EveryHistory =
    (start : Start) (w : State) (M : History) (P : Trace) (t : List ℕ)
    → Reached start w M P → MayLeave w t
    → (S : Keys) × Holds t start.shape.slots S × ChainTo (lives (start_keys start) M) S

-- What is settled lasts: each text that a crash may leave holds a set that has each key whose adding is settled, unless a
-- removal of it is under way, and lacks each key whose absence is settled, unless an adding of it is.
abbrev pub WhatLasts : Type 0
WhatLasts =
    (start : Start) (w : State) (M : History) (P : Trace) (t : List ℕ)
    → Reached start w M P → MayLeave w t
    → (S : Keys) × Holds t start.shape.slots S × Lasts P (last_history (lives (start_keys start) M)) S

-- a step of this actor
abbrev pub is_of : ℕ → Transition → Bool
is_of a (Calls b c) = a == b
is_of a (Turn b) = a == b
is_of a (Fails b new) = a == b
is_of a (Looks b) = a == b
is_of a (CrashesIn b t) = a == b
is_of a _ = false

-- the outcomes of the steps of a run, one for one
abbrev pub outcome_of_turn : Service → ℕ → Option Caller → Option Outcome
outcome_of_turn service a None = None
outcome_of_turn service a (Some caller) = Some (line service.yard a (next_event service.yard caller)).1

abbrev pub outcome_at : State → Transition → Option Outcome
outcome_at (Up service disk) (Turn a) = outcome_of_turn service a (caller_at service.callers a)
outcome_at (Up service disk) (Fails a new) = Some Fault
outcome_at _ _ = None

abbrev pub outcomes : Point → List Transition → List (Option Outcome)
outcomes p [] = []
outcomes p (step ∷ steps) = outcome_at (run p steps).state step ∷ outcomes p steps

-- the word that an actor's next event loads, if that is a load
abbrev pub hop_of : Event → Option Word
hop_of (Hop word) = Some word
hop_of _ = None

abbrev pub hop_of_caller : Service → Option Caller → Option Word
hop_of_caller service None = None
hop_of_caller service (Some caller) = hop_of (next_event service.yard caller)

abbrev pub next_hop : State → ℕ → Option Word
next_hop (Up service disk) a = hop_of_caller service (caller_at service.callers a)
next_hop (Down shape disk) a = None

-- the same state, but for the call of one actor
abbrev pub SameBut : ℕ → State → State → Type 0
SameBut a (Up one disk) (Up other disk') =
    (one.yard ≡ other.yard) × (disk ≡ disk') × ((b : ℕ) → b ≢ a → caller_at one.callers b ≡ caller_at other.callers b)
SameBut a (Down shape disk) (Down shape' disk') = (shape ≡ shape') × (disk ≡ disk')
SameBut a _ _ = ⊥

-- the call of an actor, where a service is open
abbrev pub call_in : State → ℕ → Option Caller
call_in (Up service disk) a = caller_at service.callers a
call_in (Down shape disk) a = None

-- the step ends the life
abbrev pub ends_life : Transition → Bool
ends_life Stops = true
ends_life (Crashes t) = true
ends_life (CrashesIn a t) = true
ends_life _ = false

-- Put after the steps before, a turn of the actor may be taken, and the later steps stay steps, with their outcomes, marks
-- and trace. The actor's call is as the turn left it, until the life ends; after that nothing differs.
pub record KeepsRun (p : Point) (a : ℕ) (later before : List Transition) : Type 0 where
  pub may : MayStep (run p before).state (Turn a)
  pub runs : IsRun p (later ++ Turn a ∷ before)
  pub outcomes : outcomes (run p (Turn a ∷ before)) later ≡ outcomes (run p before) later
  pub marks : (run p (later ++ Turn a ∷ before)).marks ≡ (run p (later ++ before)).marks
  pub trace : (run p (later ++ Turn a ∷ before)).trace ≡ (run p (later ++ before)).trace
  pub state : SameBut a (run p (later ++ before)).state (run p (later ++ Turn a ∷ before)).state
  pub call : list_any ends_life later ≡ false → call_in (run p (later ++ Turn a ∷ before)).state a ≡ call_in (run p (Turn a ∷ before)).state a
  pub over : list_any ends_life later ≡ true → (run p (later ++ Turn a ∷ before)).state ≡ (run p (later ++ before)).state

-- A load may be put into a run after its actor's last step: the other steps stay steps, with their outcomes, marks and
-- trace. The newest step stands first.
abbrev pub WalksMove : Type 0
WalksMove =
    (start : Start) (later before : List Transition) (a : ℕ)
    → IsStart start → IsRun (first_point start) (later ++ before)
    → list_any (is_of a) later ≡ false → IsSome (next_hop (run (first_point start) before).state a)
    → KeepsRun (first_point start) a later before

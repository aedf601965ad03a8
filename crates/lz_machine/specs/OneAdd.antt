-- The machine running: one adding to a freshly made set of one slot, in each format. And what a crash may leave.
use Rattle.std.specs.Prelude.{◌≡◌, ℕ, Bool, true, false, List, [], ◌∷◌, ◌++◌, replicate, Some, None}
use Rattle.lz_slot.specs.declared.{command.Command.TheVariants.{Add}, format.Format.{Format, TheVariants.{Four}}, history.HistoryEvent.TheVariants.{Call, Answer}}
use Rattle.lz_slot.specs.{Bytes.{open_byte, slot_body}, Whole.{whole_slot}, Histories.{History}}
use Rattle.lz_vault.specs.Vaults.{DeviceCall, NoCall, WriteAt, SyncAll}
use Rattle.lz_list.specs.Traces.{Trace}
use Rattle.lz_machine.specs.{Table.{line_call}, Runs.{Start, IsStart, State, Up, Transition, Calls, Turn, IsRun, Point, run, first_point, caller_at}}
use Rattle.lz_machine.specs.Runs.{next_event, made_text, Reached, MayLeave}

-- a format that stands on a bytewise disk
abbrev pub is_bytewise : Format → Bool
is_bytewise Four = true
is_bytewise F = false

abbrev pub one_slot : Format → Start
one_slot F = record { bytewise = is_bytewise F; shape = record { slots = 1; buckets = 1; passes = 1 }; text = made_text F 1 }

-- the call and its fifteen turns, the newest first
abbrev pub one_add : List Transition
one_add = replicate 15 (Turn 1) ++ Calls 1 (Add 9) ∷ []

-- The device calls of these steps, the newest first.
abbrev pub made : DeviceCall → List DeviceCall
made NoCall = []
made call = call ∷ []

abbrev pub made_by : State → Transition → List DeviceCall
made_by (Up service disk) (Turn a) = elim (caller_at service.callers a) [
  | None ↦ []
  | Some caller ↦ made (line_call service.yard a (next_event service.yard caller))
]
made_by w _ = []

abbrev pub device_calls : Point → List Transition → List DeviceCall
device_calls p [] = []
device_calls p (step ∷ steps) = made_by (run p steps).state step ++ device_calls p steps

-- A slot with a gate takes two writes, each with its sync. One of format 4 takes one of each.
abbrev pub calls_of_adding : Format → List DeviceCall
calls_of_adding Four = SyncAll ∷ WriteAt 16 (whole_slot 9) ∷ []
calls_of_adding F = SyncAll ∷ WriteAt 16 (open_byte ∷ []) ∷ SyncAll ∷ WriteAt 17 (slot_body 9) ∷ []

-- They are the steps of a run, the call is answered yes, and the device is called so.
pub record RunsOneAdd (F : Format) : Type 0 where
  pub starts : IsStart (one_slot F)
  pub runs : IsRun (first_point (one_slot F)) one_add
  pub marks : (run (first_point (one_slot F)) one_add).marks ≡ Answer 1 true ∷ Call 1 1 (Add 9) ∷ []
  pub calls : device_calls (first_point (one_slot F)) one_add ≡ calls_of_adding F

abbrev pub OneAddRuns : Type 0
OneAddRuns = (F : Format) → RunsOneAdd F

-- In each state that is reached a crash may leave some text.
abbrev pub LeavesText : Type 0
LeavesText = (start : Start) (w : State) (M : History) (P : Trace) → Reached start w M P → (t : List ℕ) × MayLeave w t

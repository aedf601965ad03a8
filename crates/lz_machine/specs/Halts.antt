-- What the marks of a run tell of a halt, and of device calls that failed. Marks and steps stand newest first.
use Rattle.std.specs.Prelude.{◌≡◌, ◌⊎◌, ℕ, suc, ◌+◌, ◌≤◌, Bool, true, false, List, [], ◌∷◌, Option, Some, None}
use Rattle.lz_slot.specs.declared.history.{Cut.TheVariants.{Halted as cut_halted, Device as cut_device}, HistoryEvent.{HistoryEvent, TheVariants.{Call, Answer, Refused, Cut}}}
use Rattle.lz_slot.specs.{declared.history.Refusal.TheVariants.{Full as refused_full}, Histories.{History}}
use Rattle.lz_list.specs.Traces.{Trace}
use Rattle.lz_machine.specs.declared.caller.{Progress.{Progress, TheVariants.{Playing, LoadsHalt, Answering}}, Sequence.TheVariants.{Pinning, Resting, Halting}}
use Rattle.lz_machine.specs.declared.event.Reply.{Reply, TheVariants.{Worn, OldFile, Halted, Device}}
use Rattle.lz_machine.specs.Runs.{Caller, Start, State, Up, Down, Transition, Fails, Opens, Reached, IsRun, first_point, run}

-- a call of the life that goes on was cut off
abbrev pub was_cut : History → Bool
was_cut (Cut i why ∷ M) = true
was_cut (Call i a c ∷ M) = was_cut M
was_cut (Answer i answer ∷ M) = was_cut M
was_cut (Refused i why ∷ M) = was_cut M
was_cut _ = false

-- call i was made after that
abbrev pub IsMadeLate : History → ℕ → Type 0
IsMadeLate [] i = ⊥
IsMadeLate (Call j a c ∷ M) i = ((j ≡ i) × (was_cut M ≡ true)) ⊎ IsMadeLate M i
IsMadeLate (_ ∷ M) i = IsMadeLate M i

-- what may be told of such a call: that its pass is worn, that the file is too old for its key, or that the service has halted
abbrev pub MayTellLate : HistoryEvent → History → Type 0
MayTellLate (Answer i answer) M = ¬ IsMadeLate M i
MayTellLate (Refused i refused_full) M = ¬ IsMadeLate M i
MayTellLate (Cut i cut_device) M = ¬ IsMadeLate M i
MayTellLate _ M = Unit {0}

-- Of each call that was made after another was cut off, nothing else is told.
abbrev pub HaltLasts : History → Type 0
HaltLasts [] = Unit {0}
HaltLasts (m ∷ M) = MayTellLate m M × HaltLasts M

-- the same of its reply
abbrev pub IsLateReply : Reply → Type 0
IsLateReply Worn = Unit {0}
IsLateReply OldFile = Unit {0}
IsLateReply Halted = Unit {0}
IsLateReply reply = ⊥

-- A call that began after the halt has come no further than the load of the halt word.
abbrev pub IsLate : Progress → Type 0
IsLate (Playing Pinning i) = Unit {0}
IsLate LoadsHalt = Unit {0}
IsLate (Answering reply) = IsLateReply reply
IsLate at = ⊥

-- how many calls of the life that goes on were told that the device failed in them
abbrev pub told_device : History → ℕ
told_device (Cut i cut_device ∷ M) = suc (told_device M)
told_device (Cut i cut_halted ∷ M) = told_device M
told_device (Call i a c ∷ M) = told_device M
told_device (Answer i answer ∷ M) = told_device M
told_device (Refused i why ∷ M) = told_device M
told_device _ = 0

-- the reply that a call has coming, unless its next events fail
abbrev pub reply_due : Progress → Option Reply
reply_due (Playing (Halting reply) i) = Some reply
reply_due (Playing (Resting s reply) i) = Some reply
reply_due (Answering reply) = Some reply
reply_due _ = None

-- 1 for a call that is to be told that the device failed in it
abbrev pub device_reply : Option Reply → ℕ
device_reply (Some Device) = 1
device_reply _ = 0

abbrev pub device_due : Option Caller → ℕ
device_due None = 0
device_due (Some caller) = device_reply (reply_due caller.progress)

-- how many of the open calls are
abbrev pub calls_due : List (Option Caller) → ℕ
calls_due [] = 0
calls_due (caller ∷ callers) = device_due caller + calls_due callers

abbrev pub due_in : State → ℕ
due_in (Up service disk) = calls_due service.callers
due_in (Down shape disk) = 0

-- how many device calls failed in the last life
abbrev pub failed_in : List Transition → ℕ
failed_in [] = 0
failed_in (Fails a new ∷ steps) = suc (failed_in steps)
failed_in (Opens ∷ steps) = 0
failed_in (_ ∷ steps) = failed_in steps

-- So it is of the marks of every run: a call that is made after another was cut off isn't answered.
abbrev pub HaltsLast : Type 0
HaltsLast = (start : Start) (w : State) (M : History) (P : Trace) → Reached start w M P → HaltLasts M

-- In each life one device call fails at most; and no more calls are told so, or are to be told.
abbrev pub FailsOnce : Type 0
FailsOnce =
    (start : Start) (steps : List Transition) → IsRun (first_point start) steps
    → (failed_in steps ≤ 1) × (told_device (run (first_point start) steps).marks + due_in (run (first_point start) steps).state ≤ failed_in steps)

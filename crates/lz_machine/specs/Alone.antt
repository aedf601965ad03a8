-- One caller: each life is a plain set's, one command after the other.
use Rattle.std.specs.Prelude.{◌≡◌, ◌⊎◌, ℕ, ◌<◌, Bool, true, false, List, [], ◌∷◌, None, Some}
use Rattle.lz_slot.specs.declared.{command.Command.{Command, TheVariants.{Add}}, history.Refusal.TheVariants.{Full, Worn, OldFile}}
use Rattle.lz_slot.specs.declared.{history.HistoryEvent.TheVariants.{Call, Answer, Refused, Cut}, format.Format.{Format}}
use Rattle.lz_slot.specs.{Sets.{Keys, Same, key_of, after, reply, HasMembers}, Bytes.{Holds, format_of}, Histories.{History, Life, lives}}
use Rattle.lz_disk.specs.Images.{Medium}
use Rattle.lz_list.specs.Traces.{Trace, member}
use Rattle.lz_machine.specs.declared.event.Reply.TheVariants.{Worn as SaysWorn, OldFile as SaysOldFile, Halted, Device}
use Rattle.lz_machine.specs.{declared.caller.Progress.TheVariants.{Reserving}, Table.{pin_of, last_pin, is_old}, Runs.{Start, IsStart, Service, Caller, Up}}
use Rattle.lz_machine.specs.Runs.{Transition, Calls, Turn, Fails, Looks, CrashesIn, MayStep, MayLeave, Reached, IsRun, run, first_point, start_keys, caller_at}
use Rattle.lz_machine.specs.Runs.{reply_at}
use Rattle.lz_allot.specs.Uses.{collect, lowest_free}

-- the step is this actor's, or no actor's
abbrev pub IsOwn : ℕ → Transition → Type 0
IsOwn a (Calls b c) = b ≡ a
IsOwn a (Turn b) = b ≡ a
IsOwn a (Fails b new) = b ≡ a
IsOwn a (Looks b) = b ≡ a
IsOwn a (CrashesIn b t) = b ≡ a
IsOwn a _ = Unit {0}

-- no other actor takes a step
abbrev pub IsAlone : ℕ → List Transition → Type 0
IsAlone a [] = Unit {0}
IsAlone a (step ∷ steps) = IsOwn a step × IsAlone a steps

-- a call was cut off
abbrev pub has_cut : History → Bool
has_cut [] = false
has_cut (Cut i why ∷ M) = true
has_cut (m ∷ M) = has_cut M

-- The calls of one life, made one after the other, lead a plain set from S to T. An answer is that of the set, and a refused
-- call changes nothing. Once a call was cut off, each later one is cut off, worn, or one that the file's format
-- can't serve; of the calls without an answer the first one may be done, and no other.
abbrev pub IsPlain : Keys → History → Keys → Type 0
IsPlain S [] T = Same S T
IsPlain S (Answer i answer ∷ Call j a c ∷ M) T =
    (i ≡ j) × (has_cut M ≡ false) × ((U : Keys) × IsPlain S M U × (reply c (U (key_of c)) ≡ answer) × Same (after c U) T)
IsPlain S (Refused i Full ∷ Call j a c ∷ M) T = (i ≡ j) × (has_cut M ≡ false) × IsPlain S M T
IsPlain S (Refused i Worn ∷ Call j a c ∷ M) T = (i ≡ j) × IsPlain S M T
IsPlain S (Refused i OldFile ∷ Call j a c ∷ M) T = (i ≡ j) × IsPlain S M T
IsPlain S (Cut i why ∷ Call j a c ∷ M) T = (i ≡ j) × IsPlain S (Call j a c ∷ M) T
IsPlain S (Call j a c ∷ M) T = IsPlain S M T ⊎ ((has_cut M ≡ false) × ((U : Keys) × IsPlain S M U × Same (after c U) T))
IsPlain S _ T = ⊥

-- each life leads to the set with which the next began, the newest to T
abbrev pub ArePlain : List Life → Keys → Type 0
ArePlain [] T = Unit {0}
ArePlain (life ∷ earlier) T = IsPlain life.start life.history T × ArePlain earlier life.start

-- Where one actor is alone, each text that a crash may leave holds a set to which the lives lead as plain sets.
abbrev pub AloneIsPlain : Type 0
AloneIsPlain =
    (start : Start) (steps : List Transition) (a : ℕ) (t : List ℕ)
    → IsStart start → IsRun (first_point start) steps → IsAlone a steps
    → MayLeave (run (first_point start) steps).state t
    → (T : Keys) × Holds t start.shape.slots T × ArePlain (lives (start_keys start) (run (first_point start) steps).marks) T

-- an adding finds no room: its key is no member, and the set has N members
abbrev pub IsFull : ℕ → Command → Keys → Type 0
IsFull N (Add k) S = (S k ≡ false) × HasMembers S N
IsFull N _ S = ⊥

-- a key is added only to a set of fewer than N members
abbrev pub HasRoomFor : ℕ → Command → Bool → Keys → Type 0
HasRoomFor N (Add k) true S = (n : ℕ) × HasMembers S n × (n < N)
HasRoomFor N _ _ S = Unit {0}

-- Where the set before a call was T: an adding is answered yes only with room in it, and is full only without. A call is told
-- of an old file exactly where it adds a key that the file's format can't hold, and comes to no answer then.
abbrev pub IsSized : Format → ℕ → Keys → History → Type 0
IsSized F N S [] = Unit {0}
IsSized F N S (Answer i answer ∷ Call j a c ∷ M) = (is_old F c ≡ false) × ((T : Keys) → IsPlain S M T → HasRoomFor N c answer T) × IsSized F N S M
IsSized F N S (Refused i Full ∷ Call j a c ∷ M) = (is_old F c ≡ false) × ((T : Keys) → IsPlain S M T → IsFull N c T) × IsSized F N S M
IsSized F N S (Refused i OldFile ∷ Call j a c ∷ M) = (is_old F c ≡ true) × IsSized F N S M
IsSized F N S (m ∷ M) = IsSized F N S M

abbrev pub AreSized : Format → ℕ → List Life → Type 0
AreSized F N [] = Unit {0}
AreSized F N (life ∷ earlier) = IsSized F N life.start life.history × AreSized F N earlier

-- Where one actor is alone, a call is told of an old file exactly where it adds a key that the format of the file can't hold;
-- else full comes exactly where the key is no member and the set has as many members as there are slots.
abbrev pub FullIsRight : Type 0
FullIsRight =
    (start : Start) (steps : List Transition) (a : ℕ)
    → IsStart start → IsRun (first_point start) steps → IsAlone a steps
    → AreSized (format_of start.text) start.shape.slots (lives (start_keys start) (run (first_point start) steps).marks)

-- In a set of one pass: where an adding that has seen all pins finds no slot, as many keys are members as there are slots, by
-- the trace.
abbrev pub FullOfOnePass : Type 0
FullOfOnePass =
    (start : Start) (service : Service) (disk : Medium) (M : History) (P : Trace) (a : ℕ) (caller : Caller)
    → Reached start (Up service disk) M P → service.yard.shape.passes ≡ 1 → caller_at service.callers a ≡ Some caller
    → caller.progress ≡ Reserving true → lowest_free (collect service.yard.uses) ≡ None
    → HasMembers (λ k. member k P) service.yard.shape.slots

-- A turn that answers worn is taken where the pin word is 2^62, and one that answers halted or device where the vault is
-- dead. A call is told of an old file exactly where it adds a key that can't be held by the format of the text that the open
-- read: then it comes to no other answer. This holds of any number of actors.
abbrev pub RefusalsAreRight : Type 0
RefusalsAreRight =
    (start : Start) (service : Service) (disk : Medium) (M : History) (P : Trace) (a : ℕ) (caller : Caller)
    → Reached start (Up service disk) M P → caller_at service.callers a ≡ Some caller → MayStep (Up service disk) (Turn a)
    → (reply_at caller.progress ≡ Some SaysWorn → pin_of service.yard a ≡ last_pin)
    × (reply_at caller.progress ≡ Some Halted → service.yard.vault.dead ≡ true)
    × (reply_at caller.progress ≡ Some Device → service.yard.vault.dead ≡ true)
    × (reply_at caller.progress ≡ Some SaysOldFile → is_old service.yard.vault.format caller.command ≡ true)
    × (is_old service.yard.vault.format caller.command ≡ true → reply_at caller.progress ≡ Some SaysOldFile)

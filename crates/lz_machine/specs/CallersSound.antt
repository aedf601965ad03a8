-- What an open call relies on in a sound state, by how far it has come.
use Rattle.std.specs.Prelude.{◌≡◌, ◌⊎◌, ℕ, zero, suc, ◌<◌, ◌≤◌, ◌%◌, Bool, true, false, List, length, Option, Some, None}
use Rattle.lz_slot.specs.{declared.{format.Format.{Format}, command.Command.{Command, TheVariants.{Add, Remove, Has}}}, Sets.{key_of}}
use Rattle.lz_vault.specs.{declared.vault.Stage.{Stage, TheVariants.{KeyLoose, Keyed}}, Stages.{Cell}, Vaults.{Vaulted}}
use Rattle.lz_list.specs.{declared.{place.Place.{Place}, walk.Look.{Look, TheVariants.{AtHead, AtKey, AtMet, AtBelow}}}, Words.{link_to}}
use Rattle.lz_list.specs.Traces.{Trace, Begins, bucket_of, key_word, linking, linking_in, is_removed, is_marked, halt_word, member, SettledYes, SettledNo}
use Rattle.lz_list.specs.{Pinned.{Stood, IsQuiet}, Laws.{IsHigh}}
use Rattle.lz_machine.specs.declared.event.Reply.{Reply, TheVariants.{Yes, No, Full, Worn as SaysWorn, OldFile as SaysOldFile, Halted, Device}}
use Rattle.lz_machine.specs.declared.actor.Actor.{Actor}
use Rattle.lz_machine.specs.declared.actor.LockPhase.TheVariants.{Nothing, Locks, Checked, GateOpened, Linked, GateClosed, Marked, Unlinked, Released}
use Rattle.lz_machine.specs.declared.caller.Sequence.{Sequence, TheVariants.{Pinning, Resting, Writing, Adding, Removing, Releasing, Halting}}
use Rattle.lz_machine.specs.declared.caller.Progress.{Progress, TheVariants.{Playing, LoadsHalt, Walking, Reserving, SeeingPins, Claiming, Checking, Answering}}
use Rattle.lz_machine.specs.{Yards.{Shape, actor_in, cell_in, stage_in, pin_in, IsInside}, Table.{is_old, last_pin}, Runs.{Caller, caller_at}, Kept.{upto}}
use Rattle.lz_machine.specs.{Stands.{IsWalking, WasBetween}, Notes.{Notes}}

-- What an open call relies on, by how far it has come. A caller's view: the table's buckets, how many passes there are,
-- the file's format, the slots' cells, whether the vault is dead, and what its actor has in hand.
pub record View : Type 0 where
  pub buckets : ℕ
  pub passes : ℕ
  pub format : Format
  pub cells : List Cell
  pub dead : Bool
  pub actor : Actor

-- the slot in which the key was written and synced
pub record IsWritten (v : View) (k s : ℕ) (P : Trace) : Type 0 where
  pub slot : v.actor.slot ≡ Some s
  pub stage : stage_in v.cells s ≡ Keyed
  pub key : (cell_in v.cells s).key ≡ k
  pub word : key_word s P ≡ k

abbrev pub IsAimed : View → ℕ → Trace → Option ℕ → Type 0
IsAimed v k P None = v.actor.slot ≡ None
IsAimed v k P (Some s) = IsWritten v k s P

-- curr, where a walk for an adding ended: the end, a key above, or a marked node of the key itself
abbrev pub IsBeyond : ℕ → Trace → Option ℕ → Type 0
IsBeyond k P curr = IsHigh k (link_to curr) P ⊎ ((s : ℕ) × (curr ≡ Some s) × (key_word s P ≡ k) × (is_marked s P ≡ true))

-- a walk has ended for an adding with a slot, or for a removing
abbrev pub HasEnded : Command → Option ℕ → ℕ → Trace → Trace → Place → Option ℕ → Type 0
HasEnded (Add k) (Some s) buckets P0 P pred curr = WasBetween buckets k pred (link_to curr) P0 P × IsBeyond k P curr
HasEnded (Remove k) None buckets P0 P pred curr =
    WasBetween buckets k pred (link_to curr) P0 P × ((s : ℕ) × (curr ≡ Some s) × (key_word s P ≡ k))
HasEnded _ _ buckets P0 P pred curr = ⊥

abbrev pub IsLooking : ℕ → ℕ → Trace → Trace → Look → Type 0
IsLooking buckets k P0 P AtHead = Unit {0}
IsLooking buckets k P0 P (AtKey pred s) = WasBetween buckets k pred (suc s) P0 P
IsLooking buckets k P0 P (AtMet pred s) = WasBetween buckets k pred (suc s) P0 P × (key_word s P ≡ k)
IsLooking buckets k P0 P (AtBelow s) = IsWalking buckets k (suc s) P0 P

-- the trace R is one of those since the pin
pub record IsSince (P0 R P : Trace) : Type 0 where
  pub from : Begins P0 R
  pub upto : Begins R P

-- a walk met the node of k in slot s, marked or not
pub record HasMet (buckets k s : ℕ) (mark : Bool) (P0 P : Trace) : Type 0 where
  pub then : Trace
  pub since : IsSince P0 then P
  pub stood : Stood buckets (bucket_of buckets k) P0 then (suc s)
  pub key : key_word s then ≡ k
  pub met : is_marked s then ≡ mark

-- Answers rest on a settled yes, on a settled no, on a change that was settled, or on nothing.
pub record RestsYes (k : ℕ) (P0 P : Trace) : Type 0 where
  pub then : Trace
  pub since : IsSince P0 then P
  pub settled : SettledYes then P k

pub record RestsNo (k : ℕ) (P0 P : Trace) : Type 0 where
  pub then : Trace
  pub since : IsSince P0 then P
  pub settled : SettledNo then P k

-- the key was no member at some time since the pin
pub record WasAbsent (k : ℕ) (P0 P : Trace) : Type 0 where
  pub then : Trace
  pub since : IsSince P0 then P
  pub gone : member k then ≡ false

-- the call's own change, at this position, has been settled since
pub record IsSettledChange (k : ℕ) (P : Trace) (changed : Option ℕ) : Type 0 where
  pub at : ℕ
  pub is : changed ≡ Some at
  pub within : at < length P
  pub settled : SettledYes (upto (suc at) P) P k ⊎ SettledNo (upto (suc at) P) P k

-- only an adder asks for a slot, writes a key, and walks with a slot
abbrev pub IsAdder : Command → Type 0
IsAdder (Add k) = Unit {0}
IsAdder _ = ⊥

abbrev pub MayAnswer : Command → Reply → Trace → Trace → Option ℕ → Type 0
MayAnswer (Has k) Yes P0 P changed = (changed ≡ None) × RestsYes k P0 P
MayAnswer (Has k) No P0 P changed = (changed ≡ None) × RestsNo k P0 P
MayAnswer (Add k) Yes P0 P changed = IsSettledChange k P changed
MayAnswer (Add k) No P0 P changed = (changed ≡ None) × RestsYes k P0 P
MayAnswer (Remove k) Yes P0 P changed = IsSettledChange k P changed
MayAnswer (Remove k) No P0 P changed = (changed ≡ None) × RestsNo k P0 P
MayAnswer c (Full counts) P0 P changed = (changed ≡ None) × WasAbsent (key_of c) P0 P × IsAdder c
MayAnswer c SaysWorn P0 P changed = changed ≡ None
MayAnswer c SaysOldFile P0 P changed = changed ≡ None
MayAnswer c _ P0 P changed = halt_word P ≡ 1

-- the call's own adding of slot s, and its own removing of the node in s, which its locks keep on the chain
pub record HasAdded (buckets k s : ℕ) (P0 P : Trace) (changed : Option ℕ) : Type 0 where
  pub at : ℕ
  pub is : changed ≡ Some at
  pub within : at < length P
  pub in_slot : linking_in s P ≡ suc at
  pub is_member : member k (upto (suc at) P) ≡ true
  pub named : linking k (upto (suc at) P) ≡ suc at
  pub stood : Stood buckets (bucket_of buckets k) P0 P (suc s)

pub record HasMarked (k s : ℕ) (P : Trace) (changed : Option ℕ) : Type 0 where
  pub at : ℕ
  pub is : changed ≡ Some at
  pub within : at < length P
  pub key : key_word s P ≡ k
  pub gone : member k (upto (suc at) P) ≡ false
  pub named : linking k (upto (suc at) P) ≡ linking_in s P

-- resting on the node in slot s, before this reply
abbrev pub MayRest : ℕ → Command → Reply → ℕ → Trace → Trace → Type 0
MayRest buckets (Has k) Yes s P0 P = HasMet buckets k s false P0 P
MayRest buckets (Has k) No s P0 P = HasMet buckets k s true P0 P
MayRest buckets (Add k) No s P0 P = HasMet buckets k s false P0 P
MayRest buckets (Remove k) No s P0 P = HasMet buckets k s true P0 P
MayRest buckets c _ s P0 P = ⊥

-- its locks are let go, and nothing is changed yet
pub record HasLetGo (v : View) (changed : Option ℕ) : Type 0 where
  pub hold : v.actor.hold ≡ Nothing
  pub none : changed ≡ None

-- a call that was cut off
abbrev pub IsCut : Reply → Type 0
IsCut Halted = Unit {0}
IsCut Device = Unit {0}
IsCut _ = ⊥

-- it has nothing in hand, or the service is halted and it keeps what it had
abbrev pub IsEmptyHanded : Actor → Trace → Type 0
IsEmptyHanded actor P = ((actor.hold ≡ Nothing) × (actor.slot ≡ None)) ⊎ (halt_word P ≡ 1)

abbrev pub IsKeyed : Stage → Type 0
IsKeyed stage = (stage ≡ KeyLoose) ⊎ (stage ≡ Keyed)

abbrev pub MayAim : Command → Option ℕ → Type 0
MayAim c None = Unit {0}
MayAim c (Some s) = IsAdder c

-- Before its first event: the slot is reserved. Before its sync: the key is written.
abbrev pub ReliesWriting : View → Command → ℕ → ℕ → Trace → Option ℕ → Type 0
ReliesWriting v c s zero P changed = HasLetGo v changed × (v.actor.slot ≡ Some s) × IsAdder c
ReliesWriting v c s (suc zero) P changed =
    HasLetGo v changed × (v.actor.slot ≡ Some s) × ((cell_in v.cells s).key ≡ key_of c) × (key_word s P ≡ key_of c) × IsKeyed (stage_in v.cells s) × IsAdder c
ReliesWriting v c s _ P changed = ⊥

-- Before opening the gate, before linking, before the release, before the sync and the settling.
abbrev pub ReliesAdding : View → ℕ → ℕ → ℕ → Trace → Trace → Option ℕ → Type 0
ReliesAdding v k s zero P0 P changed = (v.actor.hold ≡ Checked) × IsWritten v k s P × (changed ≡ None)
ReliesAdding v k s (suc zero) P0 P changed =
    (v.actor.hold ≡ GateOpened) × (v.actor.slot ≡ Some s) × (key_word s P ≡ k) × (changed ≡ None)
ReliesAdding v k s (suc (suc zero)) P0 P changed = (v.actor.hold ≡ Linked) × HasAdded v.buckets k s P0 P changed
ReliesAdding v k s (suc (suc (suc zero))) P0 P changed = (v.actor.hold ≡ Nothing) × HasAdded v.buckets k s P0 P changed
ReliesAdding v k s (suc (suc (suc (suc zero)))) P0 P changed = (v.actor.hold ≡ Nothing) × HasAdded v.buckets k s P0 P changed
ReliesAdding v k s _ P0 P changed = ⊥

-- Before closing the gate, marking, the sync and the settling, unlinking, the release, retiring.
abbrev pub ReliesRemoving : View → ℕ → ℕ → ℕ → Trace → Option ℕ → Type 0
ReliesRemoving v k s zero P changed = (v.actor.hold ≡ Checked) × (key_word s P ≡ k) × (changed ≡ None)
ReliesRemoving v k s (suc zero) P changed = (v.actor.hold ≡ GateClosed) × (key_word s P ≡ k) × (changed ≡ None)
ReliesRemoving v k s (suc (suc zero)) P changed = (v.actor.hold ≡ Marked) × HasMarked k s P changed
ReliesRemoving v k s (suc (suc (suc zero))) P changed = (v.actor.hold ≡ Marked) × HasMarked k s P changed
ReliesRemoving v k s (suc (suc (suc (suc zero)))) P changed =
    (v.actor.hold ≡ Marked) × (key_word s P ≡ k) × (is_removed (linking k P) P ≡ true) × IsSettledChange k P changed
ReliesRemoving v k s (suc (suc (suc (suc (suc zero))))) P changed = (v.actor.hold ≡ Unlinked) × IsSettledChange k P changed
ReliesRemoving v k s (suc (suc (suc (suc (suc (suc zero)))))) P changed = (v.actor.hold ≡ Released) × IsSettledChange k P changed
ReliesRemoving v k s _ P changed = ⊥

-- before the event of a sequence with this index
abbrev pub ReliesOn : View → Command → Sequence → ℕ → Trace → Trace → Option ℕ → Type 0
ReliesOn v c Pinning zero P0 P changed = IsEmptyHanded v.actor P × (changed ≡ None) × (is_old v.format c ≡ false)
ReliesOn v c (Resting s reply) zero P0 P changed = HasLetGo v changed × MayRest v.buckets c reply s P0 P
ReliesOn v c (Resting s reply) (suc zero) P0 P changed = HasLetGo v changed × MayRest v.buckets c reply s P0 P
ReliesOn v c (Writing s) i P0 P changed = ReliesWriting v c s i P changed
ReliesOn v (Add k) (Adding s) i P0 P changed = ReliesAdding v k s i P0 P changed
ReliesOn v (Remove k) (Removing s) i P0 P changed = (v.actor.curr ≡ Some s) × (v.actor.slot ≡ None) × ReliesRemoving v k s i P changed
ReliesOn v c (Releasing aim) zero P0 P changed = (v.actor.hold ≡ Locks) × IsAimed v (key_of c) P aim × (changed ≡ None) × MayAim c aim
ReliesOn v c (Halting reply) zero P0 P changed = IsCut reply × (v.dead ≡ true)
ReliesOn v c _ _ P0 P changed = ⊥

abbrev pub Relies : View → Command → Progress → Trace → Trace → Option ℕ → Type 0
Relies v c (Playing sequence i) P0 P changed = ReliesOn v c sequence i P0 P changed
Relies v c LoadsHalt P0 P changed = IsEmptyHanded v.actor P × (changed ≡ None)
Relies v c (Walking aim look) P0 P changed =
    HasLetGo v changed × IsAimed v (key_of c) P aim × IsLooking v.buckets (key_of c) P0 P look × MayAim c aim
Relies v c (Reserving again) P0 P changed = HasLetGo v changed × (v.actor.slot ≡ None) × IsAdder c × WasAbsent (key_of c) P0 P
Relies v c (SeeingPins p) P0 P changed =
    HasLetGo v changed × (v.actor.slot ≡ None) × (1 ≤ p) × (p ≤ v.passes) × IsAdder c × WasAbsent (key_of c) P0 P
Relies v c (Claiming aim pred curr) P0 P changed =
    HasLetGo v changed × IsAimed v (key_of c) P aim × HasEnded c aim v.buckets P0 P pred curr
Relies v c (Checking aim curr) P0 P changed =
    (changed ≡ None) × (v.actor.hold ≡ Locks) × (v.actor.curr ≡ curr) × IsAimed v (key_of c) P aim
    × HasEnded c aim v.buckets P0 P v.actor.pred curr
Relies v c (Answering SaysWorn) P0 P changed = IsEmptyHanded v.actor P × (changed ≡ None) × (is_old v.format c ≡ false)
Relies v c (Answering SaysOldFile) P0 P changed = IsEmptyHanded v.actor P × (changed ≡ None) × (is_old v.format c ≡ true) × (v.actor.refused ≡ true)
Relies v c (Answering reply) P0 P changed = MayAnswer c reply P0 P changed × ((v.actor.hold ≡ Nothing) ⊎ (halt_word P ≡ 1))

-- a call is outside before its Pin, and where that was worn, or where the file can't hold the key that it adds
abbrev pub is_before_pin : Progress → Bool
is_before_pin (Playing Pinning i) = true
is_before_pin (Answering SaysWorn) = true
is_before_pin (Answering SaysOldFile) = true
is_before_pin _ = false

abbrev pub side_of : Bool → ℕ
side_of true = 0
side_of false = 1

-- where the pass of a call is: outside, at its last pin where it was found worn, or inside
abbrev pub IsSide : ℕ → Progress → Type 0
IsSide pin (Answering SaysWorn) = pin ≡ last_pin
IsSide pin at = pin % 2 ≡ side_of (is_before_pin at)

-- a call that is inside adds only a key that the file can hold
abbrev pub IsCaller : View → ℕ → Option Caller → Trace → Trace → Option ℕ → Type 0
IsCaller v pin None P0 P changed = IsEmptyHanded v.actor P × (changed ≡ None)
IsCaller v pin (Some caller) P0 P changed =
    IsSide pin caller.progress × (IsInside pin → is_old v.format caller.command ≡ false)
    × Relies v caller.command caller.progress P0 P changed

pub record CallerSound (v : View) (pin : ℕ) (caller : Option Caller) (P0 P : Trace) (changed : Option ℕ) : Type 0 where
  pub quiet : IsInside pin → IsQuiet v.buckets P0 P
  pub begins : IsInside pin → Begins P0 P
  pub stands : IsCaller v pin caller P0 P changed

abbrev pub view_of : Shape → Vaulted → List Actor → ℕ → View
view_of shape vault actors a =
    record { buckets = shape.buckets; passes = shape.passes; format = vault.format; cells = vault.cells; dead = vault.dead; actor = actor_in actors a }

pub record CallersSound (shape : Shape) (vault : Vaulted) (pins : List ℕ) (actors : List Actor) (callers : List (Option Caller)) (P : Trace) (notes : Notes) : Type 0 where
  pub count : length callers ≡ shape.passes
  pub hands : length actors ≡ shape.passes
  pub each : (a : ℕ) → CallerSound (view_of shape vault actors a) (pin_in pins a) (caller_at callers a) (notes.begun a) P (notes.changed a)

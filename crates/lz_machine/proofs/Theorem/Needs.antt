-- What the needs of an event say of what its actor has in hand.
use Rattle.std.proofs.{Common.{arith, ◌≡◌, ℕ, ◌≤◌, true, false, Option, Some, is_some}, lemmas.Bool.Decides.{nat_tests}}
use mathlib.Core.Bool.{false≢true}
use Rattle.lz_slot.specs.Rooms.{largest_of}
use Rattle.lz_vault.specs.declared.vault.Stage.{Stage, TheVariants.{Keyed}}
use Rattle.lz_list.specs.Traces.{Trace, key_word}
use Rattle.lz_machine.specs.declared.{actor.LockPhase.{LockPhase, TheVariants.{Checked, GateOpened, GateClosed, Marked, Released}}, event.Event.{Event}}
use Rattle.lz_machine.specs.declared.event.Event.TheVariants.{WriteKey, WriteOpen, Retire}
use Rattle.lz_machine.specs.{Table.{has_stage, may_check, has_checked, has_opened, has_closed, has_marked, may_release, may_retire}, Yards.{cell_in}}
use Rattle.lz_machine.specs.{CallersSound.{View}, SlotsSound.{opens}, LocksSound.{has_locks}}

-- what a call knows of its next event: the node that it retires, that the file can hold the key that it writes, and that the slot that it
-- opens has the key of its word
abbrev pub Knows : View → Trace → Event → Type 0
Knows v P Retire = (s : ℕ) × (v.actor.curr ≡ Some s)
Knows v P (WriteKey k) = k ≤ largest_of v.format
Knows v P WriteOpen = (s : ℕ) × (v.actor.slot ≡ Some s) × ((cell_in v.cells s).key ≡ key_word s P)
Knows v P _ = Unit {0}

-- what the needs say
pub some_of : (slot : Option ℕ) → is_some slot ≡ true → (s : ℕ) × (slot ≡ Some s)
some_of slot is = grind (arith, nat_tests, false≢true)

pub is_checked : (hold : LockPhase) → has_checked hold ≡ true → hold ≡ Checked
is_checked hold is = grind (arith, nat_tests, false≢true)

pub is_opened : (hold : LockPhase) → has_opened hold ≡ true → hold ≡ GateOpened
is_opened hold is = grind (arith, nat_tests, false≢true)

pub is_closed : (hold : LockPhase) → has_closed hold ≡ true → hold ≡ GateClosed
is_closed hold is = grind (arith, nat_tests, false≢true)

pub is_marking : (hold : LockPhase) → has_marked hold ≡ true → hold ≡ Marked
is_marking hold is = grind (arith, nat_tests, false≢true)

pub is_released : (hold : LockPhase) → may_retire hold ≡ true → hold ≡ Released
is_released hold is = grind (arith, nat_tests, false≢true)

pub check_locks : (hold : LockPhase) → may_check hold ≡ true → has_locks hold ≡ true
check_locks hold is = grind (arith, nat_tests, false≢true)

pub release_locks : (hold : LockPhase) → may_release hold ≡ true → has_locks hold ≡ true
release_locks hold is = grind (arith, nat_tests, false≢true)

-- in a vault that lives only an opened gate is open
pub opens_alive : (hold : LockPhase) → opens false hold ≡ true → has_opened hold ≡ true
opens_alive hold is = grind (arith, nat_tests, false≢true)

pub is_keyed : (stage : Stage) → has_stage Keyed stage ≡ true → stage ≡ Keyed
is_keyed stage is = grind (arith, nat_tests, false≢true)

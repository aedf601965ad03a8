-- What an actor has in hand, and may rely on its hold for, stays when its hold changes so, and when the vault dies.
use Rattle.std.proofs.{lemmas.Bool.Decides.{nat_tests}, Common.{◌≡◌, ℕ, Bool, true, false, Some, arith}}
use mathlib.Core.Bool.{false≢true}
use Rattle.lz_machine.specs.{declared.actor.{Actor.{Actor}, LockPhase.{LockPhase}}, SlotsSound.{IsOut, IsCloser, closes, opens, shuts, unlocks, has_removed_node}}
use Rattle.lz_machine.specs.LocksSound.{has_locks}

-- the actor has the same slots in hand, and may rely on its hold for them
pub record KeepsGrips (dead dead' : Bool) (old new : Actor) : Type 0 where
  pub slot : new.slot ≡ old.slot
  pub out : (s : ℕ) → IsOut new s → IsOut old s
  pub still_out : (s : ℕ) → IsOut old s → IsOut new s
  pub closer : (s : ℕ) → IsCloser dead old s → IsCloser dead' new s
  pub opener : opens dead old.hold ≡ true → opens dead' new.hold ≡ true
  pub unlock : unlocks new.hold ≡ true → unlocks old.hold ≡ true
  pub shut : (s : ℕ) → new.curr ≡ Some s → shuts new.hold ≡ true → (old.curr ≡ Some s) × (shuts old.hold ≡ true)

-- a hold under which nothing has been done has no grip but the slot
pub fresh_grip : (dead : Bool) (old new : Actor) → closes dead old.hold ≡ false → opens dead old.hold ≡ false → has_removed_node old.hold ≡ false → has_removed_node new.hold ≡ false → shuts new.hold ≡ false → unlocks new.hold ≡ false → new.slot ≡ old.slot → KeepsGrips dead dead old new
fresh_grip dead old new closed opened out no_more open_yet shut_yet slot = grind arith

pub keeps_itself : (dead dead' : Bool) (old new : Actor) → (dead ≡ true → dead' ≡ true) → new ≡ old → KeepsGrips dead dead' old new
keeps_itself dead dead' old new dies same = grind arith

-- an actor that may have closed a gate has its locks
pub closer_locks : (dead : Bool) (hold : LockPhase) → closes dead hold ≡ true → has_locks hold ≡ true
closer_locks dead hold is = grind (arith, nat_tests, false≢true)

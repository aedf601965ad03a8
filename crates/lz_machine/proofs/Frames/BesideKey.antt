-- An actor that has opened its slot's gate stands beside its key's place.
use Rattle.std.proofs.{lemmas.{Bool.Decides.{nat_tests}, Option.{same_Some}}, Common.{◌≡◌, ℕ, Bool, true, Some, arith}}
use mathlib.Core.Bool.{false≢true}
use Rattle.lz_vault.specs.{declared.vault.Stage.{Stage}, Stages.{IsFree}}
use Rattle.lz_list.specs.Traces.{Trace, key_word}
use Rattle.lz_machine.specs.{declared.actor.{Actor.{Actor}, LockPhase.{LockPhase}}, SlotsSound.{opens, IsGateOpened, IsGateWritten}, LocksSound.{IsBeside, RestsOn}}
use Rattle.lz_machine.proofs.Frames.HeldLocks.{rests_on_pair}

-- a gate that is surely closed is neither opened nor written open
pub opened_shut : (stage : Stage) → IsGateOpened stage → IsFree stage → ⊥
opened_shut stage h free = grind (arith, nat_tests)

pub opened_written : (stage : Stage) → IsGateOpened stage → IsGateWritten stage → ⊥
opened_written stage h1 h2 = grind arith

-- an actor that has opened its slot's gate stands beside its key's place
pub beside_of : (buckets : ℕ) (dead : Bool) (hold : LockPhase) (actor : Actor) (P : Trace) (t : ℕ) → RestsOn buckets hold actor P → opens dead hold ≡ true → actor.slot ≡ Some t → IsBeside buckets (key_word t P) actor.pred actor.curr P × (rests_on_pair hold ≡ true)
beside_of buckets dead hold actor P t h opened slot = grind (arith, nat_tests, same_Some, false≢true)

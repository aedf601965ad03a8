-- The yard as contracts see it, and what an event that is played does to its parts.
use Rattle.std.specs.Prelude.{◌≡◌, ◌≢◌, ℕ, ◌<◌, ◌≤◌, true, false, not, ◌&&◌, List, length, slice_get, Some, IfSome, Result, Ok, Err}
use Rattle.lz_slot.specs.Limits.{most_passes}
use Rattle.lz_disk.specs.Devices.{Device}
use Rattle.lz_vault.specs.{Vaults.{NoCall, Succeeds, Fails, last_sync}, declared.vault.VaultFault.{VaultFault}}
use Rattle.lz_allot.specs.Uses.{Use}
use Rattle.lz_machine.specs.declared.{event.{Event.{Event}, Outcome.{Outcome}}, course.Course.{Course, TheVariants.{Refused, Dies, Plays}}, actor.Actor.{Actor}}
use Rattle.lz_machine.specs.{Yards.{Yard, actor_at}, Table.{needs, course, is_played_dead, call_of, yard_done, outcome_of, with_vault, vault_failed}}

-- The yard and the disk.
pub record YardOver (D : Type 0) : Type 0 where
  pub yard : Yard
  pub disk : D

-- Its parts: the yard, with the number of passes that the slots' uses know, and the disk.
pub record PartsOver (D : Type 0) : Type 0 where
  pub yard : Yard
  pub rows : ℕ
  pub disk : D

-- what an actor has in hand are slots of so many
pub record HasInRange (slots : ℕ) (actor : Actor) : Type 0 where
  pub slot : IfSome actor.slot (λ s. s < slots)
  pub curr : IfSome actor.curr (λ s. s < slots)

-- The parts fit: each table is as long as the shape says, the passes are no more than the most, actors have slots in hand, and
-- no sync was made beyond the last.
pub record PartsFit (y : Yard) (known : ℕ) : Type 0 where
  pub cells : length y.vault.cells ≡ y.shape.slots
  pub heads : length y.words.heads ≡ y.shape.buckets
  pub links : length y.words.links ≡ y.shape.slots
  pub keys : length y.words.keys ≡ y.shape.slots
  pub pins : length y.words.pins ≡ y.shape.passes
  pub uses : length y.uses ≡ y.shape.slots
  pub rows : known ≡ y.shape.passes
  pub passes : y.shape.passes ≤ most_passes
  pub actors : length y.actors ≡ y.shape.passes
  pub syncs : y.vault.syncs ≤ last_sync
  pub hands : (i : ℕ) (actor : Actor) → slice_get y.actors i ≡ Some actor → HasInRange y.shape.slots actor

-- what is known by an event's course: where it is played, its needs hold; where the vault dies, no sync is left
abbrev pub Known : Course → Yard → ℕ → Event → Type 0
Known Plays y a e = (course y a e ≡ Plays) × (needs y a e ≡ true) × ((y.vault.dead && not (is_played_dead e)) ≡ false)
Known Dies y a e = y.vault.syncs ≡ last_sync
Known (Refused outcome) y a e = Unit {0}

-- an event that is played: it is done, or it has a device call, which failed
abbrev pub Does : Yard → ℕ → Event → Result Outcome VaultFault → Yard → Device → Device → Type 0
Does y a e (Ok outcome) new before after =
    (new ≡ yard_done y (actor_at y a) a e) × (outcome ≡ outcome_of y (actor_at y a) e) × Succeeds (call_of y (actor_at y a) e) before after
Does y a e (Err fault) new before after = (new ≡ with_vault y (vault_failed y (actor_at y a) e)) × Fails (call_of y (actor_at y a) e) before after × (call_of y (actor_at y a) e ≢ NoCall)

-- the vault, the uses, what the actors have in hand: one of them is another, and the rest stays
abbrev pub with_uses : Yard → List Use → Yard
with_uses y uses = record { shape = y.shape; words = y.words; locks = y.locks; vault = y.vault; uses = uses; actors = y.actors }

abbrev pub with_actors : Yard → List Actor → Yard
with_actors y actors = record { shape = y.shape; words = y.words; locks = y.locks; vault = y.vault; uses = y.uses; actors = actors }

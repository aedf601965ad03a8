-- One actor's step: what was changed of it, and that the others' is as before.
use Rattle.std.proofs.Common.{◌≡◌, ◌≢◌, ℕ, List, arith}
use Rattle.lz_machine.specs.{declared.actor.Actor.{Actor}, Yards.{actor_in}}

-- what holds of an actor and of each other one holds of all
pub by_actor : (A : ℕ → Type 0) (a : ℕ) → A a → ((b : ℕ) → b ≢ a → A b) → (b : ℕ) → A b
by_actor A a mine others b = grind arith

-- what one actor keeps when it becomes x stays for all
pub field_stays : (A : Type 0) (field : Actor → A) (actors actors' : List Actor) (a : ℕ) (x : Actor) → actor_in actors' a ≡ x → ((b : ℕ) → b ≢ a → actor_in actors' b ≡ actor_in actors b)
    → field x ≡ field (actor_in actors a) → (b : ℕ) → field (actor_in actors' b) ≡ field (actor_in actors b)
field_stays A field actors actors' a x hand_a hand_b mine = grind (arith, by_actor)

-- Why a slot may be prepared again: what the notes show of pin words since the slot stood on a chain last.
use Rattle.std.specs.Prelude.{◌≡◌, ℕ, ◌≤◌, List, ◌∷◌, length, Some}
use Rattle.lz_slot.specs.Counted.{of_pass}
use Rattle.lz_allot.specs.{declared.sight.Sight.{Sight, TheVariants.{Unseen, Inside, Left}}, Uses.{Use, Free, Taken, Limbo, use_of}}
use Rattle.lz_list.specs.{Traces.{Trace}, declared.layout.Sizes.{Sizes}}
use Rattle.lz_machine.specs.{declared.actor.Actor.{Actor}, Yards.{idle_actor}, Limbo.{IsAway}}
use Rattle.lz_board.specs.{declared.view.Note.{Note}, Notes.{trace_of, pin_after}, Noting.{Sighting, HasLeft, AllLeft}}

-- a sight of a pass is one that the notes show: it was seen inside with this value since, or it has left
abbrev pub SightTold : Sizes → Trace → List Note → ℕ → ℕ → Sight → Type 0
SightTold z opened ns q s Unseen = Unit {0}
SightTold z opened ns q s (Inside u) =
    (x : Sighting opened ns q) × (pin_after q (x.note ∷ x.rest) ≡ u) × IsAway z.buckets (trace_of opened x.rest) (trace_of opened ns) s
SightTold z opened ns q s Left = HasLeft z opened ns q s

abbrev pub UseTold : Sizes → Trace → List Note → ℕ → Use → Type 0
UseTold z opened ns s Free = AllLeft z opened ns s
UseTold z opened ns s Taken = Unit {0}
UseTold z opened ns s (Limbo sights) = (length sights ≡ z.passes) × ((q : ℕ) → 1 ≤ q → q ≤ z.passes → SightTold z opened ns q s (of_pass sights q Left))

-- The part of the lock's invariant by which a hold may prepare the slot in its actor's hand.
pub record ReuseTold (z : Sizes) (opened : Trace) (ns : List Note) (uses : List Use) (actors : List Actor) : Type 0 where
  pub each : (s : ℕ) → UseTold z opened ns s (use_of uses s)
  pub hands : (a s : ℕ) → (of_pass actors a idle_actor).slot ≡ Some s → AllLeft z opened ns s

-- What a history may be: the marks of a service's run, and the points of its calls. Both stand newest first.
use Rattle.lz_slot.specs.Histories as seen
use Rattle.std.specs.Prelude.{◌≡◌, ◌≢◌, ◌⊎◌, ℕ, ◌≤◌, ◌==◌, Bool, true, false, IsTrue, if◌then◌else◌, List, [], ◌∷◌, Option, None, Some}
use Rattle.lz_slot.specs.declared.{command.Command.{Command}, history.HistoryEvent.{HistoryEvent, TheVariants.{Call, Answer, Refused, Cut, Stop, Crash, Opened, OpenFailed}}}
use Rattle.lz_judge.specs.{Limits.{largest_place}, declared.history.Point.{Point}}

-- a history and the points of its calls
pub record Record : Type 0 where
  pub marks : List HistoryEvent
  pub points : List Point

-- call i has a point at this place
abbrev pub IsPoint : List Point → ℕ → ℕ → Type 0
IsPoint [] i place = ⊥
IsPoint (point ∷ points) i place = ((point.call ≡ i) × (point.place ≡ place)) ⊎ IsPoint points i place

-- call i was made
abbrev pub IsMade : List HistoryEvent → ℕ → Type 0
IsMade M i = (c : Command) × seen.IsCalled M i c

-- whether a life goes on
abbrev pub is_living : List HistoryEvent → Bool
is_living [] = true
is_living (Opened keys ∷ M) = true
is_living (Stop ∷ M) = false
is_living (Crash ∷ M) = false
is_living (m ∷ M) = is_living M

-- the actor of call i, where it was made in the life that goes on and hasn't ended
abbrev pub actor_of : List HistoryEvent → ℕ → Option ℕ
actor_of [] i = None
actor_of (Call j actor c ∷ M) i = if j == i then Some actor else actor_of M i
actor_of (Answer j answer ∷ M) i = if j == i then None else actor_of M i
actor_of (Refused j why ∷ M) i = if j == i then None else actor_of M i
actor_of (Cut j why ∷ M) i = if j == i then None else actor_of M i
actor_of (Stop ∷ M) i = None
actor_of (Crash ∷ M) i = None
actor_of (Opened keys ∷ M) i = None
actor_of (OpenFailed why ∷ M) i = actor_of M i

-- call i was made in the life that goes on, and hasn't ended
abbrev pub IsOpen : List HistoryEvent → ℕ → Type 0
IsOpen M i = (actor : ℕ) × (actor_of M i ≡ Some actor)

-- The mark may come next: a call within a life, with a number of its own, by an actor that has no open call; the ending of
-- an open call; an open where no life goes on; and each other mark.
abbrev pub MayFollow : HistoryEvent → List HistoryEvent → Type 0
MayFollow (Call i actor c) M = IsTrue (is_living M) × (¬ IsMade M i) × ((j : ℕ) → actor_of M j ≢ Some actor)
MayFollow (Answer i answer) M = IsOpen M i
MayFollow (Refused i why) M = IsOpen M i
MayFollow (Cut i why) M = IsOpen M i
MayFollow (Opened keys) M = is_living M ≡ false
MayFollow Stop M = Unit {0}
MayFollow Crash M = Unit {0}
MayFollow (OpenFailed why) M = Unit {0}

-- each mark could come where it stands
abbrev pub IsLawful : List HistoryEvent → Type 0
IsLawful [] = Unit {0}
IsLawful (m ∷ M) = MayFollow m M × IsLawful M

-- no place is above the largest one
abbrev pub ArePlaces : List Point → Type 0
ArePlaces [] = Unit {0}
ArePlaces (point ∷ points) = (point.place ≤ largest_place) × ArePlaces points

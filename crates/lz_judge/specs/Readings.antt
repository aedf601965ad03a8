-- What each reading of a history has found when it has come as far as the marks M, or the points.
use Rattle.std.specs.BTreeMap as tree
use Rattle.std.specs.BTreeSet as set
use Rattle.std.specs.Prelude.{◌≡◌, ◌≢◌, ◌⊎◌, ◌↔◌, ℕ, ◌<◌, ◌≤◌, ◌==◌, Bool, true, false, if◌then◌else◌, List, [], ◌∷◌, map, Option, None, Some}
use Rattle.std.specs.{BTreeMap.{BTreeMap}, BTreeSet.{BTreeSet}, Ordering.{nat_cmp}}
use Rattle.lz_slot.specs.{declared.history.HistoryEvent.{HistoryEvent, TheVariants.{Call, Answer}}, Histories.{IsAnswered, IsBefore, IsRefused, count_of}}
use Rattle.lz_judge.specs.{declared.history.Point.{Point}, Limits.{largest_place}, Records.{IsMade, IsPoint}}
use Rattle.lz_judge.specs.Flaws.{IsLifeBefore, IsMadeBefore, IsMisplaced, IsPast}

-- whether call i was made
abbrev pub is_made : List HistoryEvent → ℕ → Bool
is_made [] i = false
is_made (Call j actor c ∷ M) i = if j == i then true else is_made M i
is_made (m ∷ M) i = is_made M i

-- the answer of call i
abbrev pub answer_of : List HistoryEvent → ℕ → Option Bool
answer_of [] i = None
answer_of (Answer j answer ∷ M) i = if j == i then Some answer else answer_of M i
answer_of (m ∷ M) i = answer_of M i

-- the place of call i by its newest point
abbrev pub place_of : List Point → ℕ → Option ℕ
place_of [] i = None
place_of (point ∷ points) i = if point.call == i then Some point.place else place_of points i

-- the calls that were made, and their answers
pub record IsCensus (M : List HistoryEvent) (calls : BTreeSet ℕ) (answers : BTreeMap ℕ Bool) : Type 0 where
  pub made : (i : ℕ) → set.contains nat_cmp calls i ≡ is_made M i
  pub told : (i : ℕ) → tree.get nat_cmp answers i ≡ answer_of M i

-- the map has the place of each call with a point
abbrev pub HasPlaces : List Point → BTreeMap ℕ ℕ → Type 0
HasPlaces points places = (i : ℕ) → tree.get nat_cmp places i ≡ place_of points i

-- i is a number with a point that is no call's, or there is none
pub record Strangers (points : List Point) (calls : BTreeSet ℕ) (least : Option ℕ) : Type 0 where
  pub found : (i : ℕ) → least ≡ Some i → ((p : ℕ) × IsPoint points i p) × (set.contains nat_cmp calls i ≡ false)
  pub none : least ≡ None → (i p : ℕ) → IsPoint points i p → set.contains nat_cmp calls i ≡ true

-- i is a call with two points, or there is none
pub record Twice (points : List Point) (seen : BTreeSet ℕ) (least : Option ℕ) : Type 0 where
  pub seen_is : (i : ℕ) → (set.contains nat_cmp seen i ≡ true) ↔ (1 ≤ count_of i (map (λ point. point.call) points))
  pub found : (i : ℕ) → least ≡ Some i → 2 ≤ count_of i (map (λ point. point.call) points)
  pub none : least ≡ None → (i : ℕ) → count_of i (map (λ point. point.call) points) ≤ 1

-- i is a refused call with a place, or there is none
pub record RefusedOnes (M : List HistoryEvent) (places : BTreeMap ℕ ℕ) (least : Option ℕ) : Type 0 where
  pub found : (i : ℕ) → least ≡ Some i → IsRefused M i × ((p : ℕ) × (tree.get nat_cmp places i ≡ Some p))
  pub none : least ≡ None → (i : ℕ) → IsRefused M i → tree.get nat_cmp places i ≡ None

-- i is an answered call without a place, or there is none
pub record UnlistedOnes (M : List HistoryEvent) (places : BTreeMap ℕ ℕ) (least : Option ℕ) : Type 0 where
  pub found : (i : ℕ) → least ≡ Some i → ((answer : Bool) × IsAnswered M i answer) × (tree.get nat_cmp places i ≡ None)
  pub none : least ≡ None → (i : ℕ) (answer : Bool) → IsAnswered M i answer → (p : ℕ) × (tree.get nat_cmp places i ≡ Some p)

-- call i has this place
abbrev pub IsAt : BTreeMap ℕ ℕ → ℕ → ℕ → Type 0
IsAt places i p = tree.get nat_cmp places i ≡ Some p

-- no place is above the largest one
abbrev pub AreLow : BTreeMap ℕ ℕ → Type 0
AreLow places = (i p : ℕ) → IsAt places i p → p ≤ largest_place

-- j is a call whose point an earlier call forbids, or there is none
pub record Ordered (M : List HistoryEvent) (places : BTreeMap ℕ ℕ) (least : Option ℕ) : Type 0 where
  pub found : (j : ℕ) → least ≡ Some j → (i : ℕ) × (p : ℕ) × (q : ℕ) × IsAt places i p × IsAt places j q × IsMisplaced M i j p q
  pub apart : least ≡ None → (i j p q : ℕ) → IsAt places i p → IsAt places j q → IsMadeBefore M i j → p ≢ q
  pub before : least ≡ None → (i j p q : ℕ) → IsAt places i p → IsAt places j q → IsBefore M i j → p < q
  pub lives : least ≡ None → (i j p q : ℕ) → IsAt places i p → IsAt places j q → IsLifeBefore M i j → p < q

-- The next call has to lie at the floor or above it, and not where a call lies already. The floor is above the answered
-- calls and those of earlier lives, and no higher; the top is above all calls, and no higher.
pub record Floored (M : List HistoryEvent) (places : BTreeMap ℕ ℕ) (floor top : ℕ) (used : BTreeSet ℕ) (least : Option ℕ) : Type 0 where
  pub answered : (i : ℕ) (answer : Bool) (p : ℕ) → IsAnswered M i answer → IsAt places i p → p < floor
  pub past : (i p : ℕ) → IsPast M i → IsAt places i p → p < floor
  pub floor_is : (q : ℕ) → q < floor → (i : ℕ) × (p : ℕ) × IsAt places i p × (q ≤ p) × IsMade M i × (((answer : Bool) × IsAnswered M i answer) ⊎ IsPast M i)
  pub made : (i p : ℕ) → IsMade M i → IsAt places i p → (p < top) × (set.contains nat_cmp used p ≡ true)
  pub top_is : (q : ℕ) → q < top → (i : ℕ) × (p : ℕ) × IsAt places i p × (q ≤ p) × IsMade M i
  pub used_is : (p : ℕ) → set.contains nat_cmp used p ≡ true → (i : ℕ) × IsMade M i × IsAt places i p
  pub order : Ordered M places least

-- What the judge knows of the points before it looks at their order.
use Rattle.std.specs.BTreeMap as tree
use Rattle.std.specs.{Prelude.{◌≡◌, ℕ, ◌≤◌, Bool, None, List, map}, BTreeMap.{BTreeMap}, Ordering.{nat_cmp}}
use Rattle.lz_slot.specs.{declared.history.HistoryEvent.{HistoryEvent}, Histories.{IsAnswered, IsRefused, count_of}}
use Rattle.lz_judge.specs.{declared.history.Point.{Point}, Records.{IsMade, IsPoint}, Readings.{IsAt}}

-- each call with a point has this one place, no refused call has one, and each answered call has
pub record AreListed (M : List HistoryEvent) (points : List Point) (places : BTreeMap ℕ ℕ) : Type 0 where
  pub placed : (i p : ℕ) → IsPoint points i p → IsAt places i p
  pub refused : (i : ℕ) → IsRefused M i → tree.get nat_cmp places i ≡ None
  pub answered : (i : ℕ) (answer : Bool) → IsAnswered M i answer → (p : ℕ) × IsAt places i p

-- each point is that of a call, and no call has two
pub record AreCalled (M : List HistoryEvent) (points : List Point) : Type 0 where
  pub made : (i p : ℕ) → IsPoint points i p → IsMade M i
  pub once : (i : ℕ) → count_of i (map (λ point. point.call) points) ≤ 1

-- What is known of the calls of a history.
use Rattle.std.specs.BTreeMap as tree
use Rattle.std.specs.BTreeSet as set
use Rattle.std.specs.{Prelude.{◌≡◌, ◌↔◌, ℕ, ◌==◌, if◌then◌else◌, Bool, true, List, None, Some}, BTreeMap.{BTreeMap}, BTreeSet.{BTreeSet}, Ordering.{nat_cmp}}
use Rattle.lz_slot.specs.declared.history.HistoryEvent.{HistoryEvent}
use Rattle.lz_judge.specs.Records.{IsMade, actor_of, is_living}

-- the calls that were made, the actors of the open ones, and the open calls of the actors
pub record IsLedger (M : List HistoryEvent) (calls : BTreeSet ℕ) (open_calls : BTreeMap ℕ ℕ) (busy : BTreeMap ℕ ℕ) (living : Bool) : Type 0 where
  pub made : (i : ℕ) → (set.contains nat_cmp calls i ≡ true) ↔ IsMade M i
  pub actor : (i : ℕ) → tree.get nat_cmp open_calls i ≡ actor_of M i
  pub call : (a i : ℕ) → (tree.get nat_cmp busy a ≡ Some i) ↔ (actor_of M i ≡ Some a)
  pub lives : living ≡ is_living M

-- the same, with call i ended
pub record Ends (M : List HistoryEvent) (i : ℕ) (calls : BTreeSet ℕ) (open_calls : BTreeMap ℕ ℕ) (busy : BTreeMap ℕ ℕ) (living : Bool) : Type 0 where
  pub made : (j : ℕ) → (set.contains nat_cmp calls j ≡ true) ↔ IsMade M j
  pub actor : (j : ℕ) → tree.get nat_cmp open_calls j ≡ (if i == j then None else actor_of M j)
  pub call : (a j : ℕ) → (tree.get nat_cmp busy a ≡ Some j) ↔ ((if i == j then None else actor_of M j) ≡ Some a)
  pub lives : living ≡ is_living M

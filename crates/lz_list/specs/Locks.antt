-- Node locks, and the three tests that a writer makes under them.
use Rattle.std.specs.Prelude.{ℕ, Bool, false, not, ◌&&◌, ◌==◌, List, [], ◌∷◌, slice_index, slice_set, Option, Some, None}
use Rattle.lz_list.specs.{declared.place.Place.{Place, TheVariants.{Bucket, Node}}, Words.{Words, link_to, next_at, is_marked_at}}

-- The node locks, by place: the actor that has each, 0 where it is free.
pub record NodeLocks : Type 0 where
  pub heads : List ℕ
  pub nodes : List ℕ

-- the places that a claim takes: the node of curr too, where there is one
abbrev pub claimed_places : Place → Option ℕ → List Place
claimed_places pred None = pred ∷ []
claimed_places pred (Some s) = pred ∷ Node s ∷ []

-- the actor that has the lock of a place, 0 where it is free
abbrev pub owner : NodeLocks → Place → ℕ
owner locks (Bucket b) = slice_index locks.heads b
owner locks (Node s) = slice_index locks.nodes s

abbrev pub with_owner : NodeLocks → Place → ℕ → NodeLocks
with_owner locks (Bucket b) a = record { heads = slice_set locks.heads b a; nodes = locks.nodes }
with_owner locks (Node s) a = record { heads = locks.heads; nodes = slice_set locks.nodes s a }

-- both locks of a pair, or the first alone where there is no node after it
abbrev pub is_pair_free : NodeLocks → Place → Option ℕ → Bool
is_pair_free locks pred None = owner locks pred == 0
is_pair_free locks pred (Some s) = (owner locks pred == 0) && (owner locks (Node s) == 0)

abbrev pub pair_owned : NodeLocks → Place → Option ℕ → ℕ → NodeLocks
pair_owned locks pred None a = with_owner locks pred a
pair_owned locks pred (Some s) a = with_owner (with_owner locks pred a) (Node s) a

-- The three tests: pred is unmarked, curr is unmarked, the next link of pred is curr.
abbrev pub is_marked_node : Words → Option ℕ → Bool
is_marked_node words None = false
is_marked_node words (Some s) = is_marked_at words (Node s)

abbrev pub check : Words → Place → Option ℕ → Bool
check words pred curr = not (is_marked_at words pred) && not (is_marked_node words curr) && (next_at words pred == link_to curr)

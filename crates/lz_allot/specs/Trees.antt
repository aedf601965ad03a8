-- A tree of words in one list: the root is node 0, node k has the children 64k + 1 to 64k + 64, and the leaves come last.
use Rattle.std.specs.Prelude.{◌≡◌, ℕ, zero, suc, ◌+◌, ◌*◌, ◌-◌, ◌/◌, ◌%◌, ◌<◌, ◌≤◌, ◌==◌, nat_lt, Bool, false, List, length, map, slice_index_or}
use Rattle.std.specs.{Int.{bit_at}, List.{range_with_len}}
use Rattle.lz_slot.specs.Limits.{most_slots}

-- the word of node k
abbrev pub word_at : List ℕ → ℕ → ℕ
word_at words k = slice_index_or words k 0

-- what the word above node k tells of it
abbrev pub is_told : List ℕ → ℕ → Bool
is_told words k = bit_at (word_at words ((k - 1) / 64)) ((k - 1) % 64) == 1

-- what a tree shows: what is told of each leaf that is a slot
abbrev pub shown : List ℕ → ℕ → ℕ → List Bool
shown words first slots = map (λ s. is_told words (first + s)) (range_with_len 0 slots)

-- the first node at this depth
abbrev pub start_of : ℕ → ℕ
start_of zero = 0
start_of (suc depth) = 64 * start_of depth + 1

-- a number that is the first node at some depth
pub record IsStart (first : ℕ) : Type 0 where
  pub levels : ℕ
  pub start : first ≡ start_of levels
  pub least : 1 ≤ first
  pub most : first ≤ 2 * most_slots

-- A tree whose first leaves are those of the slots; nothing is told of the other leaves.
pub record IsTree (words : List ℕ) (first slots : ℕ) : Type 0 where
  pub start : IsStart first
  pub range : (slots ≤ most_slots) × (slots ≤ 63 * first + 1)
  pub size : first + slots ≤ 64 * length words
  pub told : (k : ℕ) → 1 ≤ k → k < first → is_told words k ≡ nat_lt 0 (word_at words k)
  pub rest : (k : ℕ) → first + slots ≤ k → is_told words k ≡ false

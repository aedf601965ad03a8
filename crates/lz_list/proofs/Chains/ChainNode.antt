-- The nodes of a chain, by key and by slot.
use Rattle.std.proofs.Common.{◌≡◌, ℕ, ◌≤◌, ◌<◌, true, ◌||◌, [], ◌∷◌, ◌++◌, refl, arith}
use mathlib.Core.Bool.{false≢true}
use Rattle.lz_slot.specs.Nodes.{has_node}
use Rattle.lz_list.specs.Traces.{Chain, has_key, has_slot, bucket_of}

-- a key's bucket is one of the table's
pub bucket_low : (buckets k : ℕ) → 1 ≤ buckets → bucket_of buckets k < buckets
unfolding bucket_of
bucket_low buckets k some = omega (arith, some)

-- the slot of a chain's node is one of the chain's
pub node_slot : (k s : ℕ) (es : Chain) → has_node k s es ≡ true → has_slot s es ≡ true
node_slot k s [] there = absurd (false≢true there)
node_slot k s (f ∷ es) there = grind (arith, node_slot k s es)

pub node_has_key : (k s : ℕ) (c : Chain) → has_node k s c ≡ true → has_key k c ≡ true
node_has_key k s [] has = has
node_has_key k s (f ∷ c) has = grind (arith, node_has_key k s c)

pub has_key_append : (k : ℕ) (c d : Chain) → has_key k (c ++ d) ≡ (has_key k c || has_key k d)
has_key_append k [] d = refl
has_key_append k (f ∷ c) d = grind (arith, has_key_append k c d)

pub has_slot_append : (s : ℕ) (c d : Chain) → has_slot s (c ++ d) ≡ (has_slot s c || has_slot s d)
has_slot_append s [] d = refl
has_slot_append s (f ∷ c) d = grind (arith, has_slot_append s c d)

pub has_node_append : (k s : ℕ) (c d : Chain) → has_node k s (c ++ d) ≡ (has_node k s c || has_node k s d)
has_node_append k s [] d = refl
has_node_append k s (f ∷ c) d = grind (arith, has_node_append k s c d)

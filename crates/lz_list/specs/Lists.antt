-- The list as contracts see it: its buckets are sorted, and each change keeps them so.
use Rattle.std.specs.Prelude.{◌≡◌, ◌≢◌, ◌⊎◌, ℕ, zero, suc, ◌<◌, ◌≤◌, ◌↔◌, true, false, [], ◌∷◌, length, replicate, Option, Some, None}
use Rattle.lz_slot.specs.Limits.{most_slots}
use Rattle.lz_list.specs.declared.{place.Place.{Place, TheVariants.{Bucket, Node}}, word.Word.{Word, TheVariants.{Head, Link, Key, Pin, Halt}}}
use Rattle.lz_list.specs.{Words.{Words, get, word_of, place_number, next_of, flags_of, next_at, is_marked_at}, Locks.{NodeLocks}}
use Rattle.lz_list.specs.Traces.{Chain, bucket_of, on, rank_at, WordsShow, KeysBelong}

-- The words, and who has each node lock.
pub record Listed : Type 0 where
  pub words : Words
  pub locks : NodeLocks

-- What holds of a table at any time.
pub record IsTable (w : Words) : Type 0 where
  pub buckets : 0 < length w.heads
  pub slots : length w.links ≤ most_slots
  pub keys : length w.keys ≡ length w.links

-- the words of a new table
abbrev pub new_words : ℕ → ℕ → ℕ → Words
new_words slots buckets passes =
    record { heads = replicate buckets 0; links = replicate slots 0; keys = replicate slots 0; pins = replicate passes 0; halt = 0 }

-- the locks of a table, all free
abbrev pub free_locks : Words → NodeLocks
free_locks w = record { heads = replicate (length w.heads) 0; nodes = replicate (length w.links) 0 }

-- the word, the place, the node of curr is one of this table
abbrev pub IsWord : Words → Word → Type 0
IsWord w (Head b) = b < length w.heads
IsWord w (Link s) = s < length w.links
IsWord w (Key s) = s < length w.keys
IsWord w (Pin p) = (1 ≤ p) × (p ≤ length w.pins)
IsWord w Halt = Unit {0}

abbrev pub IsPlace : Words → Place → Type 0
IsPlace w place = IsWord w (word_of place)

abbrev pub IsCurr : Words → Option ℕ → Type 0
IsCurr w None = Unit {0}
IsCurr w (Some s) = IsWord w (Link s)

-- a place, the node of curr has a lock
abbrev pub IsLock : NodeLocks → Place → Type 0
IsLock locks (Bucket b) = b < length locks.heads
IsLock locks (Node s) = s < length locks.nodes

abbrev pub IsCurrLock : NodeLocks → Option ℕ → Type 0
IsCurrLock locks None = Unit {0}
IsCurrLock locks (Some s) = IsLock locks (Node s)

-- the next link of a place of bucket b, by the place's number
abbrev pub next_in : Words → ℕ → ℕ → ℕ
next_in w b zero = next_at w (Bucket b)
next_in w b (suc s) = next_at w (Node s)

-- the bucket in which key k belongs
abbrev pub home : Words → ℕ → ℕ
home w k = bucket_of (length w.heads) k

-- each slot of the chain is one of so many
abbrev pub AreSlots : ℕ → Chain → Type 0
AreSlots slots [] = Unit {0}
AreSlots slots (n ∷ c) = (n.1 < slots) × AreSlots slots c

-- The words of bucket b show this chain: its keys ascend strictly and belong in the bucket.
pub record ShowsChain (w : Words) (b : ℕ) (c : Chain) : Type 0 where
  pub shows : WordsShow (next_in w b) (λ s. get w (Key s)) 0 c
  pub within : KeysBelong (length w.heads) b c
  pub in_range : AreSlots (length w.links) c

-- each bucket shows such a chain
abbrev pub IsSorted : Words → Type 0
IsSorted w = (b : ℕ) → b < length w.heads → (c : Chain) × ShowsChain w b c

-- Slot s stands on the chain of bucket b as the node of key k.
pub record IsNodeIn (w : Words) (b k s : ℕ) : Type 0 where
  pub chain : Chain
  pub shown : ShowsChain w b chain
  pub stands : on 0 chain (suc s) ≡ true
  pub key : get w (Key s) ≡ k

-- slot s is the node of key k, in the bucket in which k belongs
abbrev pub IsNodeOf : Words → ℕ → ℕ → Type 0
IsNodeOf w k s = IsNodeIn w (home w k) k s

-- a member of a bucket is a key with an unmarked node there
abbrev pub IsMemberIn : Words → ℕ → ℕ → Type 0
IsMemberIn w b k = (s : ℕ) × IsNodeIn w b k s × (is_marked_at w (Node s) ≡ false)

-- k is a member: the chain of its bucket has an unmarked node of k
abbrev pub IsMember : Words → ℕ → Type 0
IsMember w k = IsMemberIn w (home w k) k

-- every key but this one is a member as before
abbrev pub OthersStay : ℕ → Words → Words → Type 0
OthersStay k old new = (j : ℕ) → j ≢ k → IsMember new j ↔ IsMember old j

-- every key is a member as before
abbrev pub AllStay : Words → Words → Type 0
AllStay old new = (j : ℕ) → IsMember new j ↔ IsMember old j

-- the place is a node, or this bucket's head
abbrev pub IsOfBucket : ℕ → Place → Type 0
IsOfBucket b (Bucket c) = c ≡ b
IsOfBucket b (Node s) = Unit {0}

-- The place stands on the chain of the bucket in which key k belongs, and its own key, if it has one, is below k.
pub record IsPredecessor (w : Words) (pred : Place) (k : ℕ) : Type 0 where
  pub bucket : IsOfBucket (home w k) pred
  pub chain : Chain
  pub shown : ShowsChain w (home w k) chain
  pub stands : on 0 chain (place_number pred) ≡ true
  pub below : rank_at (λ s. get w (Key s)) (place_number pred) ≤ k

-- the place leads to the end, or to a node whose key isn't below k
abbrev pub IsLast : Words → Place → ℕ → Type 0
IsLast w place k = (next_at w place ≡ 0) ⊎ (k < rank_at (λ s. get w (Key s)) (next_at w place))

-- the first place is of a smaller key than the second; a head is below all
abbrev pub IsBelow : Words → Place → Place → Type 0
IsBelow w first second = rank_at (λ s. get w (Key s)) (place_number first) < rank_at (λ s. get w (Key s)) (place_number second)

-- Slot s may stand after a place on the chain of bucket b: the place leads to it, and its key is above the place's and
-- belongs in b.
pub record Follows (w : Words) (b : ℕ) (place : Place) (s : ℕ) : Type 0 where
  pub next : next_at w place ≡ suc s
  pub slot : s < length w.links
  pub above : IsBelow w place (Node s)
  pub bucket : home w (get w (Key s)) ≡ b

-- A slot may be linked after a place before its key, where the next key is above it and where its next link leads as the
-- place's does. So the slot itself is on no chain.
pub record MayLinkAt (w : Words) (pred : Place) (s : ℕ) : Type 0 where
  pub slot : IsWord w (Link s)
  pub before : IsPredecessor w pred (get w (Key s))
  pub above : (next_at w pred ≡ 0) ⊎ (suc (get w (Key s)) < rank_at (λ t. get w (Key t)) (next_at w pred))
  pub next : next_at w (Node s) ≡ next_at w pred

-- A node may be unlinked from the place that leads to it.
pub record MayUnlinkAt (w : Words) (pred : Place) (s : ℕ) : Type 0 where
  pub before : IsPredecessor w pred (get w (Key s))
  pub next : next_at w pred ≡ suc s

-- the word keeps its next link and its mark
abbrev pub KeepsLink : Words → Word → ℕ → Type 0
KeepsLink w word value = (next_of value ≡ next_of (get w word)) × ((flags_of value).mark ≡ (flags_of (get w word)).mark)

-- A word may become this value, where keys, next links and marks of linked places stay.
abbrev pub KeepsList : Words → Word → ℕ → Type 0
KeepsList w (Head b) value = next_of value ≡ next_of (get w (Head b))
KeepsList w (Link s) value = IsNodeOf w (get w (Key s)) s → KeepsLink w (Link s) value
KeepsList w (Key s) value = IsNodeOf w (get w (Key s)) s → value ≡ get w (Key s)
KeepsList w _ value = Unit {0}

-- What holds of a list at any time.
pub record IsList (list : Listed) : Type 0 where
  pub table : IsTable list.words
  pub sorted : IsSorted list.words
  pub heads : length list.locks.heads ≡ length list.words.heads
  pub nodes : length list.locks.nodes ≡ length list.words.links

-- What a caller may rely on where it stands, in words of the trace: P0 is the trace at its pin, P the trace now, k its key.
use Rattle.std.specs.Prelude.{◌≡◌, ℕ, suc, true, false}
use Rattle.lz_list.specs.{declared.place.Place.{Place, TheVariants.{Bucket, Node}}, Words.{place_number}, Traces.{Trace, on, chain_of, bucket_of, key_word}}
use Rattle.lz_list.specs.Traces.{node_next, next_link, IsLoose, is_marked, has_added, has_removed, member, linking, is_removed, Adjacent}
use Rattle.lz_list.specs.{Pinned.{Once, Stood}, Laws.{IsLow, IsHigh}}

-- a slot that is ready to be linked before link n
pub record IsLinkable (buckets k n s : ℕ) (P : Trace) : Type 0 where
  pub loose : IsLoose buckets s P
  pub key : key_word s P ≡ k
  pub link : node_next buckets s P ≡ n
  pub no_mark : is_marked s P ≡ false
  pub not_added : has_added s P ≡ false
  pub not_removed : has_removed s P ≡ false

-- place x stands on the chain of k's bucket and leads to n
pub record Faces (buckets k x n : ℕ) (P : Trace) : Type 0 where
  pub there : on 0 (chain_of buckets k P) x ≡ true
  pub next : next_link buckets (bucket_of buckets k) P x ≡ n

-- place x and link n stand next to each other round k's place
pub record IsRound (buckets k x n : ℕ) (P : Trace) : Type 0 where
  pub faces : Faces buckets k x n P
  pub low : IsLow k x P
  pub high : IsHigh k n P

-- a walk stands on place x and is about to load its next link
pub record IsWalking (buckets k x : ℕ) (P0 P : Trace) : Type 0 where
  pub stood : Stood buckets (bucket_of buckets k) P0 P x
  pub low : IsLow k x P

-- a head is that of k's bucket
abbrev pub InBucket : ℕ → ℕ → Place → Type 0
InBucket buckets k (Bucket b) = b ≡ bucket_of buckets k
InBucket buckets k (Node s) = Unit {0}

-- a walk has loaded the next link of a place below k, which names n: the two stood next to each other since P0
pub record WasBetween (buckets k : ℕ) (pred : Place) (n : ℕ) (P0 P : Trace) : Type 0 where
  pub bucket : InBucket buckets k pred
  pub low : IsLow k (place_number pred) P
  pub were : Once P0 P (λ R. Adjacent 0 (chain_of buckets k R) (place_number pred) n)

-- place x leads to the node of k in slot s
pub record FacesNode (buckets k x s : ℕ) (P : Trace) : Type 0 where
  pub faces : Faces buckets k x (suc s) P
  pub low : IsLow k x P
  pub key : key_word s P ≡ k

-- that node is marked and settled as removed
pub record IsLeaving (buckets k x s : ℕ) (P : Trace) : Type 0 where
  pub before : FacesNode buckets k x s P
  pub no_member : member k P ≡ false
  pub removed : is_removed (linking k P) P ≡ true

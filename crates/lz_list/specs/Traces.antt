-- Traces of publishings, and what walkers see after one. The newest publishing stands first.
use Rattle.std.specs.Prelude.{◌≡◌, ◌⊎◌, ℕ, zero, suc, ◌<◌, ◌≤◌, ◌%◌, Bool, true, false, ◌==◌, nat_lt, ◌&&◌, ◌||◌, if◌then◌else◌, not, List, [], ◌∷◌, ◌++◌}
use Rattle.std.specs.Prelude.{length, map, filter, replicate}
use Rattle.lz_list.specs.declared.{word.Word.{Word, TheVariants.{Head, Link, Key, Pin, Halt}}, flags.Flags.{Flags}, publishing.Change.{Change}}
use Rattle.lz_list.specs.declared.publishing.{Change.TheVariants.{Added, Removed}, Publishing.{Publishing, TheVariants.{Linked as linked, Marked as marked}}}
use Rattle.lz_list.specs.declared.publishing.Publishing.TheVariants.{Unlinked as unlinked, Settled as settled, KeyPrepared as key_prepared}
use Rattle.lz_list.specs.{declared.publishing.Publishing.TheVariants.{LinkPrepared as link_prepared, Halted as halted}, Words.{Words, link_with}}

abbrev pub Trace : Type 0
Trace = List Publishing

-- P begins Q
abbrev pub Begins : Trace → Trace → Type 0
Begins P [] = P ≡ []
Begins P (e ∷ Q) = (P ≡ e ∷ Q) ⊎ Begins P Q

-- nodes, each a key and a slot
abbrev pub Chain : Type 0
Chain = List (ℕ × ℕ)

-- with a node of key k in slot s before the first that has no smaller key
abbrev pub insert : ℕ → ℕ → Chain → Chain
insert k s [] = (k, s) ∷ []
insert k s (n ∷ c) = if nat_lt n.0 k then n ∷ insert k s c else (k, s) ∷ n ∷ c

-- without the first node of key k
abbrev pub without : ℕ → Chain → Chain
without k [] = []
without k (n ∷ c) = if n.0 == k then c else n ∷ without k c

abbrev pub has_key : ℕ → Chain → Bool
has_key k [] = false
has_key k (n ∷ c) = (n.0 == k) || has_key k c

-- a place is 0 for a bucket's head and one more than the slot for a node; so is a next link, with 0 for the end.
-- place y is x or a node of c
abbrev pub on : ℕ → Chain → ℕ → Bool
on x [] y = y == x
on x (n ∷ c) y = (y == x) || on (suc n.1) c y

-- the last place before key k on a chain that begins at place x
abbrev pub place_before : ℕ → ℕ → Chain → ℕ
place_before k x [] = x
place_before k x (n ∷ c) = if nat_lt n.0 k then place_before k (suc n.1) c else x

-- the link to the first node above key k
abbrev pub link_above : ℕ → Chain → ℕ
link_above k [] = 0
link_above k (n ∷ c) = if nat_lt k n.0 then suc n.1 else link_above k c

unfoldable pub bucket_of : ℕ → ℕ → ℕ
bucket_of buckets k = k % buckets

-- the chain of a bucket
abbrev pub chain : ℕ → ℕ → Trace → Chain
chain buckets b [] = []
chain buckets b (linked k s p ∷ P) = if bucket_of buckets k == b then insert k s (chain buckets b P) else chain buckets b P
chain buckets b (unlinked k s p ∷ P) = if bucket_of buckets k == b then without k (chain buckets b P) else chain buckets b P
chain buckets b (_ ∷ P) = chain buckets b P

-- the chain on which k belongs, and the place before k on it
abbrev pub chain_of : ℕ → ℕ → Trace → Chain
chain_of buckets k P = chain buckets (bucket_of buckets k) P

abbrev pub place_of : ℕ → ℕ → Trace → ℕ
place_of buckets k P = place_before k 0 (chain_of buckets k P)

-- words after a trace
abbrev pub key_word : ℕ → Trace → ℕ
key_word t [] = 0
key_word t (key_prepared s v ∷ P) = if s == t then v else key_word t P
key_word t (_ ∷ P) = key_word t P

-- the next link of a slot; `linked` and `unlinked` change that of the node before the key
abbrev pub node_next : ℕ → ℕ → Trace → ℕ
node_next buckets t [] = 0
node_next buckets t (linked k s p ∷ P) = if place_of buckets k P == suc t then suc s else node_next buckets t P
node_next buckets t (unlinked k s p ∷ P) = if place_of buckets k P == suc t then node_next buckets s P else node_next buckets t P
node_next buckets t (link_prepared s v ∷ P) = if s == t then v else node_next buckets t P
node_next buckets t (_ ∷ P) = node_next buckets t P

-- a bucket's head
abbrev pub head_word : ℕ → ℕ → Trace → ℕ
head_word buckets b [] = 0
head_word buckets b (linked k s p ∷ P) = if (place_of buckets k P == 0) && (bucket_of buckets k == b) then suc s else head_word buckets b P
head_word buckets b (unlinked k s p ∷ P) = if (place_of buckets k P == 0) && (bucket_of buckets k == b) then node_next buckets s P else head_word buckets b P
head_word buckets b (_ ∷ P) = head_word buckets b P

-- the next link of a place of bucket b
abbrev pub next_link : ℕ → ℕ → Trace → ℕ → ℕ
next_link buckets b P zero = head_word buckets b P
next_link buckets b P (suc t) = node_next buckets t P

abbrev pub member : ℕ → Trace → Bool
member k [] = false
member k (linked j s p ∷ P) = if j == k then true else member k P
member k (marked j s p ∷ P) = if j == k then false else member k P
member k (_ ∷ P) = member k P

-- a linking is named by the length of the trace that it ends; 0 for none.
-- the last linking of k
abbrev pub linking : ℕ → Trace → ℕ
linking k [] = 0
linking k (linked j s p ∷ P) = if j == k then suc (length P) else linking k P
linking k (_ ∷ P) = linking k P

-- the last linking in slot t
abbrev pub linking_in : ℕ → Trace → ℕ
linking_in t [] = 0
linking_in t (linked j s p ∷ P) = if s == t then suc (length P) else linking_in t P
linking_in t (_ ∷ P) = linking_in t P

abbrev pub is_removal : Change → Bool
is_removal Added = false
is_removal Removed = true

-- linking n is settled, and is settled as removed
abbrev pub is_settled : ℕ → Trace → Bool
is_settled n [] = false
is_settled n (settled s change ∷ P) = (linking_in s P == n) || is_settled n P
is_settled n (_ ∷ P) = is_settled n P

abbrev pub is_removed : ℕ → Trace → Bool
is_removed n [] = false
is_removed n (settled s change ∷ P) = ((linking_in s P == n) && is_removal change) || is_removed n P
is_removed n (_ ∷ P) = is_removed n P

-- a slot's three bits: the mark, and the flags of adding and removing
abbrev pub is_marked : ℕ → Trace → Bool
is_marked t [] = false
is_marked t (marked k s p ∷ P) = if s == t then true else is_marked t P
is_marked t (link_prepared s v ∷ P) = if s == t then false else is_marked t P
is_marked t (_ ∷ P) = is_marked t P

abbrev pub has_added : ℕ → Trace → Bool
has_added t [] = false
has_added t (settled s change ∷ P) = if s == t then true else has_added t P
has_added t (link_prepared s v ∷ P) = if s == t then false else has_added t P
has_added t (_ ∷ P) = has_added t P

abbrev pub has_removed : ℕ → Trace → Bool
has_removed t [] = false
has_removed t (settled s change ∷ P) = if s == t then is_removal change || has_removed t P else has_removed t P
has_removed t (link_prepared s v ∷ P) = if s == t then false else has_removed t P
has_removed t (_ ∷ P) = has_removed t P

-- no bucket's chain has the slot
abbrev pub IsLoose : ℕ → ℕ → Trace → Type 0
IsLoose buckets s P = (b : ℕ) → on 0 (chain buckets b P) (suc s) ≡ false

-- A key is linked as no member and with no node, in a slot that is prepared for its place and on no chain.
pub record MayLink (buckets slots k s : ℕ) (P : Trace) : Type 0 where
  pub in_range : s < slots
  pub loose : IsLoose buckets s P
  pub no_member : member k P ≡ false
  pub no_node : has_key k (chain_of buckets k P) ≡ false
  pub key : key_word s P ≡ k
  pub link : node_next buckets s P ≡ link_above k (chain_of buckets k P)
  pub no_mark : is_marked s P ≡ false
  pub not_added : has_added s P ≡ false
  pub not_removed : has_removed s P ≡ false

-- A node is unlinked once it is marked and settled as removed.
pub record MayUnlink (buckets k s : ℕ) (P : Trace) : Type 0 where
  pub stands : on 0 (chain_of buckets k P) (suc s) ≡ true
  pub key : key_word s P ≡ k
  pub no_member : member k P ≡ false
  pub removed : is_removed (linking k P) P ≡ true

-- this may be published after P, in a table of so many buckets and slots
abbrev pub May : ℕ → ℕ → Publishing → Trace → Type 0
May buckets slots (linked k s p) P = MayLink buckets slots k s P
May buckets slots (unlinked k s p) P = MayUnlink buckets k s P
May buckets slots (marked k s p) P = (member k P ≡ true) × (key_word s P ≡ k) × (on 0 (chain_of buckets k P) (suc s) ≡ true)
May buckets slots (key_prepared s v) P = IsLoose buckets s P
May buckets slots (link_prepared s v) P = IsLoose buckets s P
May buckets slots (settled s change) P = Unit {0}
May buckets slots halted P = Unit {0}

-- each publishing was allowed where it came
abbrev pub Lawful : ℕ → ℕ → Trace → Type 0
Lawful buckets slots [] = Unit {0}
Lawful buckets slots (e ∷ P) = May buckets slots e P × Lawful buckets slots P

-- the answer yes or no for k is settled at R, as Q shows
pub record SettledYes (R Q : Trace) (k : ℕ) : Type 0 where
  pub begins : Begins R Q
  pub member : member k R ≡ true
  pub settled : is_settled (linking k R) Q ≡ true

pub record SettledNo (R Q : Trace) (k : ℕ) : Type 0 where
  pub begins : Begins R Q
  pub no_member : member k R ≡ false
  pub settled : (linking k R ≡ 0) ⊎ (is_removed (linking k R) Q ≡ true)

-- words by place show the chain that begins at place x
abbrev pub rank_at : (ℕ → ℕ) → ℕ → ℕ
rank_at keys zero = 0
rank_at keys (suc t) = suc (keys t)

abbrev pub WordsShow : (ℕ → ℕ) → (ℕ → ℕ) → ℕ → Chain → Type 0
WordsShow next keys x [] = next x ≡ 0
WordsShow next keys x (n ∷ c) = (next x ≡ suc n.1) × (keys n.1 ≡ n.0) × (rank_at keys x ≤ n.0) × WordsShow next keys (suc n.1) c

-- link n stands after place x on the chain that begins at place w
abbrev pub Adjacent : ℕ → Chain → ℕ → ℕ → Type 0
Adjacent w [] x n = (x ≡ w) × (n ≡ 0)
Adjacent w (m ∷ c) x n = ((x ≡ w) × (n ≡ suc m.1)) ⊎ Adjacent (suc m.1) c x n

-- each key of the chain belongs in bucket b
abbrev pub KeysBelong : ℕ → ℕ → Chain → Type 0
KeysBelong buckets b [] = Unit {0}
KeysBelong buckets b (n ∷ c) = (bucket_of buckets n.0 ≡ b) × KeysBelong buckets b c

-- the words of bucket b show its chain
pub record IsShown (buckets b : ℕ) (P : Trace) : Type 0 where
  pub shows : WordsShow (next_link buckets b P) (λ t. key_word t P) 0 (chain buckets b P)
  pub within : KeysBelong buckets b (chain buckets b P)

-- slot s is the node of key k: its bits tell of k
pub record IsNode (k s : ℕ) (P : Trace) : Type 0 where
  pub is_member : member k P ≡ not (is_marked s P)
  pub same : linking_in s P ≡ linking k P
  pub some : 0 < linking k P
  pub added : has_added s P ≡ is_settled (linking k P) P
  pub removed : has_removed s P ≡ is_removed (linking k P) P

-- the answer yes or no for k is settled at R, as Q shows
abbrev pub IsSettled : Trace → Trace → ℕ → Bool → Type 0
IsSettled R Q k true = SettledYes R Q k
IsSettled R Q k false = SettledNo R Q k

-- the flags of a slot, and each word that a trace decides
abbrev pub flags_after : ℕ → Trace → Flags
flags_after s P = record { mark = is_marked s P; add_settled = has_added s P; remove_settled = has_removed s P }

abbrev pub halt_word : Trace → ℕ
halt_word [] = 0
halt_word (halted ∷ P) = 1
halt_word (_ ∷ P) = halt_word P

-- pin words are no part of a trace: a pass changes its own
abbrev pub word_after : ℕ → Trace → Word → ℕ
word_after buckets P (Head b) = head_word buckets b P
word_after buckets P (Link s) = link_with (node_next buckets s P) (flags_after s P)
word_after buckets P (Key s) = key_word s P
word_after buckets P (Pin p) = 0
word_after buckets P Halt = halt_word P

-- the numbers from f 0 to f (n - 1)
abbrev pub table : ℕ → (ℕ → ℕ) → List ℕ
table zero f = []
table (suc n) f = table n f ++ f n ∷ []

-- the words after a trace, where every pass is outside and was never inside
abbrev pub words_of_trace : ℕ → ℕ → ℕ → Trace → Words
words_of_trace slots buckets passes P =
    record {
      heads = table buckets (λ b. word_after buckets P (Head b));
      links = table slots (λ s. word_after buckets P (Link s));
      keys = table slots (λ s. word_after buckets P (Key s));
      pins = replicate passes 0;
      halt = halt_word P;
    }

-- The keys that an open found, each with its slot, count as prepared, linked and settled as added for pass 0. The words of
-- the other slots are 0.
abbrev pub opened_node : ℕ → ℕ → ℕ → Trace → Trace
opened_node buckets k s P =
    settled s Added ∷ linked k s 0 ∷ link_prepared s (link_above k (chain_of buckets k P)) ∷ key_prepared s k ∷ P

abbrev pub opening : ℕ → Chain → Trace
opening buckets [] = []
opening buckets (f ∷ found) = opened_node buckets f.0 f.1 (opening buckets found)

abbrev pub has_slot : ℕ → Chain → Bool
has_slot s [] = false
has_slot s (f ∷ found) = (f.1 == s) || has_slot s found

-- what an open may find: distinct keys, in distinct slots of so many
abbrev pub IsFound : ℕ → Chain → Type 0
IsFound slots [] = Unit {0}
IsFound slots (f ∷ found) = (f.1 < slots) × (has_key f.0 found ≡ false) × (has_slot f.1 found ≡ false) × IsFound slots found

-- the members, ascending, as a listing of the table shows them: all nodes are those of a table of one bucket
abbrev pub keys_shown : Trace → List ℕ
keys_shown P = filter (λ k. member k P) (map (λ n. n.0) (chain 1 0 P))

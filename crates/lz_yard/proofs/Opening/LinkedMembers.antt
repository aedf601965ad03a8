-- The words that an open fills are those after the trace of its members.
use Rattle.std.proofs.Common.{◌≡◌, ◌≢◌, inl, inr, ℕ, suc, ◌<◌, ◌≤◌, true, false, ◌==◌, [], ◌∷◌, ◌++◌, length, refl, sym, ap, ◌∙◌, arith, length-set}
use Rattle.std.{proofs.{Common.{length-append}, lemmas.{Bool.Decides.{nat_tests, eqb_tells}, List.{get_or_append_left}}}, specs.Prelude.{All, slice_set}}
use Rattle.lz_slot.specs.{Limits.{most_slots}, Nodes.{has_node}}
use Rattle.lz_list.specs.{declared.{place.Place.TheVariants.{Bucket}, flags.Flags.{Flags}}, Words.{Words, link_with, next_at}, Lists.{new_words}}
use Rattle.lz_list.specs.Traces.{Trace, Chain, Lawful, WordsShow, IsFound, insert, place_before, link_above, bucket_of, chain, chain_of, place_of, head_word}
use Rattle.lz_list.{specs.Traces.{node_next, next_link, key_word, flags_after, words_of_trace, table, opening}, proofs.Traces.OpeningTrace.{opening_lawful}}
use Rattle.lz_list.proofs.{Chains.{TraceChain.{words_show_chain}, ChainNode.{bucket_low}}, Tables.WordTable.{table_at, table_set, length-table}}
use Rattle.lz_list.proofs.Tables.WordRow.{table_of}
use Rattle.lz_vault.{specs.Members.{Ascends}, proofs.Members.{node_first, node_later}}
use Rattle.lz_yard.specs.Filling.{with_first, with_members}
use Rattle.lz_machine.proofs.Frames.Ranges.{head_range}

-- all keys of a chain are above this one
abbrev AllAbove : ℕ → Chain → Type 0
AllAbove k [] = Unit {0}
AllAbove k (n ∷ c) = (k < n.0) × AllAbove k c

above_insert : (k j t : ℕ) (c : Chain) → k < j → AllAbove k c → AllAbove k (insert j t c)
above_insert k j t [] low all = (low, tt)
above_insert k j t (n ∷ c) low all = grind (arith, above_insert k j t c low all.1)

above_chain : (buckets b k : ℕ) (es : Chain) → ((j t : ℕ) → has_node j t es ≡ true → k < j) → AllAbove k (chain buckets b (opening buckets es))
above_chain buckets b k [] all = tt
above_chain buckets b k (f ∷ es) all =
    let rest = above_chain buckets b k es (λ j t there. all j t (node_later j t f es there)) in
    elim (eqb_tells (bucket_of buckets f.0) b) [
      | inl e ↦ rw e.0 (above_insert k f.0 f.1 (chain buckets b (opening buckets es)) (all f.0 f.1 (node_first f es)) rest)
      | inr g ↦ rw g.0 rest
    ]

first_place : (k : ℕ) (c : Chain) → AllAbove k c → place_before k 0 c ≡ 0
first_place k [] all = refl
first_place k (n ∷ c) all = grind arith

first_link : (next keys : ℕ → ℕ) (k : ℕ) (c : Chain) → AllAbove k c → WordsShow next keys 0 c → link_above k c ≡ next 0
first_link next keys k [] all shows = sym shows
first_link next keys k (n ∷ c) all shows = grind arith

abbrev added : Flags
added = record { mark = false; add_settled = true; remove_settled = false }

-- one node more, whose key is below all others
module _ (N B S : ℕ) (few : N ≤ most_slots) (some : 1 ≤ B) (es : Chain) (k s : ℕ) (found : IsFound N ((k, s) ∷ es)) (below : (j t : ℕ) → has_node j t es ≡ true → k < j) where
  abbrev P : Trace
  P = opening B es

  abbrev Q : Trace
  Q = opening B ((k, s) ∷ es)

  abbrev W : Words
  W = words_of_trace N B S P

  abbrev b : ℕ
  b = bucket_of B k

  lawful : Lawful B N P
  lawful = opening_lawful B N es found.3

  above : AllAbove k (chain_of B k P)
  above = above_chain B b k es below

  place : place_of B k P ≡ 0
  place = first_place k (chain_of B k P) above

  link_is : link_above k (chain_of B k P) ≡ head_word B b P
  link_is = first_link (next_link B b P) (λ t. key_word t P) k (chain_of B k P) above (words_show_chain B N P lawful b).shows

  low : b < B
  low = bucket_low B k some

  next_there : next_at W (Bucket b) ≡ link_above k (chain_of B k P)
  next_there = grind (arith, head_range, lawful, table_at, low, link_is)

  next_here : node_next B s Q ≡ link_above k (chain_of B k P)
  next_here = grind (arith, place)

  next_other : (t : ℕ) → t ≢ s → node_next B t Q ≡ node_next B t P
  next_other t other = let apart : (s == t) ≡ false = grind (arith, nat_tests, other) in grind (arith, nat_tests, place, apart)

  heads_are : slice_set W.heads b (suc s) ≡ table B (λ c. head_word B c Q)
  heads_are = grind (arith, table_set, low, place)

  links_are : slice_set W.links s (link_with (next_at W (Bucket b)) added) ≡ table N (λ t. link_with (node_next B t Q) (flags_after t Q))
  links_are = grind (arith, table_set, next_here, next_there, next_other)

  keys_are : slice_set W.keys s k ≡ table N (λ t. key_word t Q)
  keys_are = grind (arith, table_set)

  pub first_words : with_first W k s ≡ words_of_trace N B S Q
  first_words = grind (arith, length-table, heads_are, links_are, keys_are)

-- all of them
pub filled_words : (N B S : ℕ) → N ≤ most_slots → 1 ≤ B → (es : Chain) → IsFound N es → Ascends es → with_members es (new_words N B S) ≡ words_of_trace N B S (opening B es)
filled_words N B S few some [] found up = grind (arith, table_of)
filled_words N B S few some (f ∷ es) found up =
    ap (λ (w : Words). with_first w f.0 f.1) (filled_words N B S few some es found.3 up.1) ∙ first_words N B S few some es f.0 f.1 found up.0

-- the last member first
with_last : (es : Chain) (f : ℕ × ℕ) (w : Words) → with_members (es ++ f ∷ []) w ≡ with_members es (with_first w f.0 f.1)
with_last [] f w = refl
with_last (e ∷ es) f w = ap (λ (v : Words). with_first v e.0 e.1) (with_last es f w)

-- what is left to link, once some of it is linked
abbrev pub Links : Chain → Words → Words → Type 0
Links es w end = (with_members es w ≡ end) × All (λ f. f.1 < length w.links) es

pub links_on : (before es : Chain) (w w' end : Words) (k s : ℕ) → Links before w end → before ≡ es ++ (k, s) ∷ [] → w' ≡ with_first w k s → Links es w' end
links_on before es w w' end k s links is words = grind (arith, with_last, length-set, length-append, get_or_append_left)

-- the same, by the numbers that the code names
pub links_go : (before es : Chain) (w w' end : Words) (k s k' s' : ℕ) → Links before w end → before ≡ es ++ (k, s) ∷ [] → w' ≡ with_first w k' s' → k' ≡ k → s' ≡ s → Links es w' end
links_go before es w w' end k s k' s' links is words key slot =
    links_on before es w w' end k s links is (words ∙ ap (λ (q : ℕ). with_first w q s') key ∙ ap (with_first w k) slot)

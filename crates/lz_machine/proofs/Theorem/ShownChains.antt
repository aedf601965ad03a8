-- The words after a trace show its chains, in the words that the list's contracts speak of. They may be those of another table
-- with the same heads, links and keys.
use Rattle.std.proofs.lemmas.{Bool.{cases_lt, Decides.{nat_tests}}, List.{get_or_past}}
use Rattle.std.proofs.Common.{◌≡◌, ◌⊎◌, ℕ, suc, ◌<◌, ◌≤◌, true, List, length, get_or, Option, Some, None, refl, sym, ap, ◌∙◌, subst, arith}
use mathlib.Core.Bool.{false≢true}
use Rattle.lz_slot.specs.Limits.{most_slots}
use Rattle.lz_list.specs.declared.{place.Place.{Place, TheVariants.{Bucket, Node}}, word.Word.TheVariants.{Head, Link, Key}}
use Rattle.lz_list.specs.Words.{Words, get, next_of, flags_of, next_at, is_marked_at, place_number, link_to}
use Rattle.lz_list.specs.Lists.{next_in, home, AreSlots, ShowsChain, IsNodeOf, IsOfBucket, IsPlace, IsCurr, IsPredecessor, MayLinkAt, MayUnlinkAt, KeepsList}
use Rattle.lz_list.specs.{Locks.{NodeLocks, owner}, Traces.{Trace, IsLoose, KeysBelong, on, rank_at, chain, chain_of, bucket_of, key_word, node_next}}
use Rattle.lz_list.specs.{Traces.{head_word, next_link, is_marked, word_after}, Laws.{IsLow, IsHigh}}
use Rattle.lz_list.proofs.Chains.{PlaceRank.{adjacent_next, shows_frame, shows_keys}, TraceChain.{words_show_chain}, SortedChain.{node_on}}
use Rattle.lz_list.proofs.{Traces.{Hindsight.{stands}, TraceWords.{chain_slots}}, Tables.WordTable.{length-table}}
use Rattle.lz_machine.specs.{Yards.{Shape}, Stands.{IsLinkable, InBucket}, LocksSound.{IsBeside, IsRightBefore as StandsBefore}, Sound.{TraceSound}}
use Rattle.lz_machine.proofs.Frames.{Ranges.{on_range}, LoadedWord.{bucket_range, head_next, link_next, link_mark, key_load}, OtherCallers.{faces_on}}

module _ (shape : Shape) (words : Words) (P : Trace) (trace : TraceSound shape words P) (few : shape.slots ≤ most_slots) (w : Words) (heads : w.heads ≡ words.heads) (links : w.links ≡ words.links) (keys : w.keys ≡ words.keys) where
  abbrev keys_then : ℕ → ℕ
  keys_then t = key_word t P

  abbrev keys_here : ℕ → ℕ
  keys_here t = get w (Key t)

  -- how many there are
  pub heads_are : length w.heads ≡ shape.buckets
  heads_are = ap (λ (l : List ℕ). length l) (heads ∙ trace.heads) ∙ length-table shape.buckets (λ b. word_after shape.buckets P (Head b))

  pub links_are : length w.links ≡ shape.slots
  links_are = ap (λ (l : List ℕ). length l) (links ∙ trace.links) ∙ length-table shape.slots (λ s. word_after shape.buckets P (Link s))

  pub keys_are : length w.keys ≡ shape.slots
  keys_are = ap (λ (l : List ℕ). length l) (keys ∙ trace.keys) ∙ length-table shape.slots (λ s. word_after shape.buckets P (Key s))

  -- loads
  head_is : (b : ℕ) → b < shape.buckets → next_of (get w (Head b)) ≡ head_word shape.buckets b P
  head_is b lt = ap (λ (l : List ℕ). next_of (get_or l b 0)) heads ∙ head_next shape words P trace few b lt

  link_is : (s : ℕ) → s < shape.slots → next_of (get w (Link s)) ≡ node_next shape.buckets s P
  link_is s lt = ap (λ (l : List ℕ). next_of (get_or l s 0)) links ∙ link_next shape words P trace few s lt

  pub mark_is : (s : ℕ) → s < shape.slots → is_marked_at w (Node s) ≡ is_marked s P
  mark_is s lt = ap (λ (l : List ℕ). (flags_of (get_or l s 0)).mark) links ∙ link_mark shape words P trace few s lt

  pub key_is : (s : ℕ) → s < shape.slots → get w (Key s) ≡ key_word s P
  key_is s lt = ap (λ (l : List ℕ). get_or l s 0) keys ∙ key_load shape words P trace few s lt

  node_slot : (b s : ℕ) → on 0 (chain shape.buckets b P) (suc s) ≡ true → s < shape.slots
  node_slot b s there = on_range shape.buckets shape.slots P b s trace.lawful there

  next_is : (b : ℕ) → b < shape.buckets → (x : ℕ) → on 0 (chain shape.buckets b P) x ≡ true → next_in w b x ≡ next_link shape.buckets b P x
  next_is b lt x there = grind (arith, nat_tests, head_is, link_is, node_slot)

  rank_is : (b x : ℕ) → on 0 (chain shape.buckets b P) x ≡ true → rank_at keys_here x ≡ rank_at keys_then x
  rank_is b x there = grind (arith, nat_tests, key_is, node_slot)

  -- the words show the trace's chain of each bucket
  pub shows : (b : ℕ) → b < shape.buckets → ShowsChain w b (chain shape.buckets b P)
  shows b lt =
      let shown = words_show_chain shape.buckets shape.slots P trace.lawful b in
      record {
        shows = shows_keys (next_in w b) (next_in w b) keys_then keys_here 0 (chain shape.buckets b P) (shows_frame (next_link shape.buckets b P) (next_in w b) keys_then 0 (chain shape.buckets b P) shown.shows (next_is b lt)) (rank_is b);
        within = subst (λ (n : ℕ). KeysBelong n b (chain shape.buckets b P)) (sym heads_are) shown.within;
        in_range = subst (λ (n : ℕ). AreSlots n (chain shape.buckets b P)) (sym links_are) (chain_slots shape.buckets shape.slots b P trace.lawful);
      }

  home_is : (k : ℕ) → home w k ≡ bucket_of shape.buckets k
  home_is k = ap (λ (n : ℕ). bucket_of n k) heads_are

  -- a slot on no chain is no node, and may be prepared
  pub no_node : (k s : ℕ) → IsLoose shape.buckets s P → IsNodeOf w k s → ⊥
  no_node k s loose node =
      let lt : home w k < shape.buckets = subst (λ (b : ℕ). b < shape.buckets) (sym (home_is k)) (bucket_range shape words P trace few k) in
      false≢true (sym (loose (home w k)) ∙ node_on w (home w k) k s (chain shape.buckets (home w k) P) (shows (home w k) lt) node)

  pub keeps_key : (s v : ℕ) → IsLoose shape.buckets s P → KeepsList w (Key s) v
  keeps_key s v loose node = absurd (no_node (get w (Key s)) s loose node)

  pub keeps_link : (s v : ℕ) → IsLoose shape.buckets s P → KeepsList w (Link s) v
  keeps_link s v loose node = absurd (no_node (get w (Key s)) s loose node)

  -- a place on k's chain, no key above k
  pub is_before : (k : ℕ) (pred : Place) → InBucket shape.buckets k pred → on 0 (chain_of shape.buckets k P) (place_number pred) ≡ true → IsLow k (place_number pred) P → IsPredecessor w pred k
  is_before k pred bucket there low = record {
    bucket = of_bucket pred bucket;
    chain = chain_of shape.buckets k P;
    shown = subst (λ (b : ℕ). ShowsChain w b (chain_of shape.buckets k P)) (sym (home_is k)) (shows (bucket_of shape.buckets k) (bucket_range shape words P trace few k));
    stands = there;
    below = omega (arith, low, rank_is (bucket_of shape.buckets k) (place_number pred) there);
  }
    where
      of_bucket : (place : Place) → InBucket shape.buckets k place → IsOfBucket (home w k) place
      of_bucket place is = grind (arith, nat_tests, home_is)

  pub leads_to : (k : ℕ) (pred : Place) → InBucket shape.buckets k pred → on 0 (chain_of shape.buckets k P) (place_number pred) ≡ true → next_at w pred ≡ next_link shape.buckets (bucket_of shape.buckets k) P (place_number pred)
  leads_to k pred bucket there = grind (arith, nat_tests, head_is, bucket_range, link_is, node_slot)

  -- a slot that is ready for the place round which its actor has the locks may be linked there
  pub may_link_at : (pred : Place) (curr : Option ℕ) (s : ℕ) → s < shape.slots → IsBeside shape.buckets (key_word s P) pred curr P → IsLinkable shape.buckets (key_word s P) (link_to curr) s P → MayLinkAt w pred s
  may_link_at pred curr s lt beside ready =
      let leads : next_at w pred ≡ link_to curr = leads_to (key_word s P) pred beside.bucket beside.round.faces.there ∙ beside.round.faces.next in
      record {
        slot = omega (arith, lt, links_are);
        before = subst (IsPredecessor w pred) (sym (key_is s lt)) (is_before (key_word s P) pred beside.bucket beside.round.faces.there beside.round.low);
        above = subst (λ (n : ℕ). (n ≡ 0) ⊎ (suc (get w (Key s)) < rank_at keys_here n)) (sym leads) (above (link_to curr) beside.round.faces.next beside.round.high);
        next = link_is s lt ∙ ready.link ∙ sym leads;
      }
    where
      above : (n : ℕ) → next_link shape.buckets (bucket_of shape.buckets (key_word s P)) P (place_number pred) ≡ n → IsHigh (key_word s P) n P → (n ≡ 0) ⊎ (suc (get w (Key s)) < rank_at keys_here n)
      above n is h = grind (arith, nat_tests, stands, adjacent_next, key_is, rank_is)

  -- a node may be unlinked from the place that leads to it
  pub may_unlink_at : (pred : Place) (s : ℕ) → StandsBefore shape.buckets pred s P → MayUnlinkAt w pred s
  may_unlink_at pred s before =
      let lt = node_slot (bucket_of shape.buckets (key_word s P)) s (faces_on shape.buckets shape.slots (key_word s P) (place_number pred) s P trace.lawful before.faces) in
      record {
        before = subst (IsPredecessor w pred) (sym (key_is s lt)) (is_before (key_word s P) pred before.bucket before.faces.faces.there before.faces.low);
        next = leads_to (key_word s P) pred before.bucket before.faces.faces.there ∙ before.faces.faces.next;
      }

  -- a place whose lock an actor has is one of the table
  pub owned_place : (locks : NodeLocks) (a : ℕ) (place : Place) → length locks.heads ≡ shape.buckets → length locks.nodes ≡ shape.slots → 1 ≤ a → owner locks place ≡ a → IsPlace w place
  owned_place locks a (Bucket b) count more low has = grind (arith, cases_lt, heads_are, get_or_past)
  owned_place locks a (Node s) count more low has = grind (arith, cases_lt, links_are, get_or_past)

  pub is_curr : (curr : Option ℕ) → ((s : ℕ) → curr ≡ Some s → IsPlace w (Node s)) → IsCurr w curr
  is_curr None each = tt
  is_curr (Some s) each = each s refl

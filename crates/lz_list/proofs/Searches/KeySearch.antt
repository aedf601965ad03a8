-- A key is looked for along its bucket.
use Rattle.std.proofs.Common.{◌≡◌, ◌≢◌, ◌⊎◌, ◌↔◌, IsTrue, not, inl, inr, ℕ, zero, suc, ◌<◌, ◌≤◌, true, [], ◌∷◌, length, refl, sym, ap, ◌∙◌, subst, arith}
use Rattle.std.proofs.lemmas.Bool.{cases_Bool}
use mathlib.Core.Bool.{false≢true}
use Rattle.lz_slot.specs.Limits.{most_slots}
use Rattle.lz_list.specs.declared.{place.Place.{Place, TheVariants.{Bucket, Node}}, word.Word.TheVariants.{Key}}
use Rattle.lz_list.specs.{Words.{Words, get, next_at, place_number, is_marked_at}, Traces.{Chain, on, rank_at, WordsShow, Adjacent}}
use Rattle.lz_list.specs.Lists.{next_in, home, IsSorted, IsNodeOf, IsMember, IsTable, IsPredecessor, IsBelow}
use Rattle.lz_list.proofs.Chains.PlaceRank.{on_start, adjacent, adjacent_next, adjacent_none, has_on}
use Rattle.lz_list.proofs.Chains.SortedChain.{slot_on, bucket_below, node_on, same_node, next_of_place}

-- what a place leads to is of a higher key
pub next_rank : (next keys : ℕ → ℕ) (x : ℕ) (c : Chain) → WordsShow next keys x c → (y s : ℕ) → Adjacent x c y (suc s) → rank_at keys y ≤ keys s
next_rank next keys x [] h y s adj = absurd (omega (arith, adj.1))
next_rank next keys x (n ∷ c) h y s adj = grind (arith, next_rank next keys (suc n.1) c)

module _ (w : Words) (table : IsTable w) (k : ℕ) where
  pub head_before : IsSorted w → IsPredecessor w (Bucket (home w k)) k
  head_before sorted =
      let c = sorted (home w k) (bucket_below w k table) in
      record { bucket = refl; chain = c.0; shown = c.1; stands = on_start 0 c.0; below = omega arith }

  module _ (place : Place) (h : IsPredecessor w place k) where
    abbrev keys : ℕ → ℕ
    keys t = get w (Key t)

    abbrev nexts : ℕ → ℕ
    nexts = next_in w (home w k)

    leads : next_at w place ≡ nexts (place_number place)
    leads = next_of_place w (home w k) place h.bucket

    behind : Adjacent 0 h.chain (place_number place) (nexts (place_number place))
    behind = adjacent nexts keys 0 h.chain h.shown.shows (place_number place) h.stands

    module _ (s : ℕ) (next : suc s ≡ next_at w place) where
      to : Adjacent 0 h.chain (place_number place) (suc s)
      to = subst (Adjacent 0 h.chain (place_number place)) (sym leads ∙ sym next) behind

      stands : on 0 h.chain (suc s) ≡ true
      stands = adjacent_next 0 h.chain (place_number place) (suc s) to (λ e. grind arith)

      pub next_slot : s < length w.links
      next_slot = slot_on (length w.links) 0 h.chain h.shown.in_range s stands (λ e. grind arith)

      pub next_before : get w (Key s) < k → IsPredecessor w (Node s) k
      next_before below = record { bucket = tt; chain = h.chain; shown = h.shown; stands = stands; below = omega arith }

      pub next_higher : IsBelow w place (Node s)
      next_higher = let up = next_rank nexts keys 0 h.chain h.shown.shows (place_number place) s to in omega arith

      -- the key's node
      pub found : get w (Key s) ≡ k → IsNodeOf w k s
      found key = record { chain = h.chain; shown = h.shown; stands = stands; key = key }

      pub passed : get w (Key s) ≢ k → (next_at w place ≡ 0) ⊎ (k < rank_at keys (next_at w place)) → (next_at w place ≡ 0) ⊎ (suc k < rank_at keys (next_at w place))
      passed other last = grind arith

    pub next_in_range : next_at w place ≤ most_slots
    next_in_range = reaches (next_at w place) refl
      where
        reaches : (n : ℕ) → n ≡ next_at w place → next_at w place ≤ most_slots
        reaches zero is = omega arith
        reaches (suc s) is = omega (arith, next_slot s is, table.slots)

    pub none_there : (next_at w place ≡ 0) ⊎ (suc k < rank_at keys (next_at w place)) → (s : ℕ) → IsNodeOf w k s → ⊥
    none_there high s node =
        let up : (nexts (place_number place) ≡ 0) ⊎ (suc k < rank_at keys (nexts (place_number place))) = subst (λ (m : ℕ). (m ≡ 0) ⊎ (suc k < rank_at keys m)) leads high in
        let none = adjacent_none nexts keys k 0 h.chain h.shown.shows (place_number place) (nexts (place_number place)) behind h.below up in
        let there = node_on w (home w k) k s h.chain h.shown node in
        false≢true (sym none ∙ has_on nexts keys k s 0 h.chain h.shown.shows (omega arith) node.key there)

-- the node of a key tells whether the key is a member
pub node_tells : (w : Words) (k s : ℕ) → IsNodeOf w k s → IsTrue (not (is_marked_at w (Node s))) ↔ IsMember w k
node_tells w k s node = elim (cases_Bool (is_marked_at w (Node s))) [
  | inl marked ↦ (
    (λ bare. absurd (false≢true (sym (ap not marked) ∙ bare))),
    (λ is. absurd (false≢true (sym is.2 ∙ ap (λ (r : ℕ). is_marked_at w (Node r)) (same_node w (home w k) k is.0 s is.1 node) ∙ marked))),
  )
  | inr bare ↦ ((λ is. (s, node, bare)), (λ is. ap not bare))
]

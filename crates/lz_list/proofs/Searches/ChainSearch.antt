-- A chain is looked for along a bucket's links.
use Rattle.std.proofs.Common.{◌≡◌, ◌↔◌, IsTrue, ◌==◌, ℕ, zero, suc, ◌<◌, true, [], ◌∷◌, length, refl, sym, ◌∙◌, subst, arith}
use Rattle.lz_list.specs.{declared.{place.Place.{Place, TheVariants.{Bucket, Node}}, word.Word.TheVariants.{Key}}, Words.{Words, get, next_at, place_number}}
use Rattle.lz_list.specs.{Traces.{Chain, on, WordsShow, Adjacent, KeysBelong}, Lists.{next_in, AreSlots, ShowsChain, IsPlace, IsOfBucket, Follows}}
use Rattle.lz_list.proofs.Chains.{PlaceRank.{on_start, adjacent, adjacent_next}, TraceChain.{bucket_on}, SortedChain.{slot_on, next_of_place}}
use Rattle.lz_list.proofs.Searches.KeySearch.{next_rank}

-- the words of bucket b show this chain from place x on
pub record Tail (w : Words) (b x : ℕ) (c : Chain) : Type 0 where
  pub shows : WordsShow (next_in w b) (λ s. get w (Key s)) x c
  pub within : KeysBelong (length w.heads) b c
  pub in_range : AreSlots (length w.links) c

-- The place was reached: a chain from there on makes one of the bucket, and the bucket's chain leads over the place.
pub record Reached (w : Words) (b : ℕ) (place : Place) : Type 0 where
  pub here : IsOfBucket b place
  pub in_it : IsPlace w place
  pub whole : (c : Chain) → Tail w b (place_number place) c → (d : Chain) × ShowsChain w b d
  pub leads : (c : Chain) → ShowsChain w b c → on 0 c (place_number place) ≡ true

module _ (w : Words) (b : ℕ) where
  pub reached_head : b < length w.heads → Reached w b (Bucket b)
  reached_head lt = grind (arith, on_start)

  module _ (place : Place) (r : Reached w b place) where
    same_next : next_at w place ≡ next_in w b (place_number place)
    same_next = next_of_place w b place r.here

    behind : (c : Chain) → ShowsChain w b c → Adjacent 0 c (place_number place) (next_at w place)
    behind c shown = subst (Adjacent 0 c (place_number place)) (sym same_next)
        (adjacent (next_in w b) (λ s. get w (Key s)) 0 c shown.shows (place_number place) (r.leads c shown))

    stands : (c : Chain) → ShowsChain w b c → (s : ℕ) → next_at w place ≡ suc s → on 0 c (suc s) ≡ true
    stands c shown s next = adjacent_next 0 c (place_number place) (suc s) (subst (Adjacent 0 c (place_number place)) next (behind c shown)) (λ e. omega arith)

    longer : (s : ℕ) → Follows w b place s → (c : Chain) → Tail w b (suc s) c → Tail w b (place_number place) ((get w (Key s), s) ∷ c)
    longer s f c tail = grind arith

    pub reached_next : (s : ℕ) → Follows w b place s → Reached w b (Node s)
    reached_next s f = record {
      here = tt;
      in_it = f.slot;
      whole = λ c tail. r.whole ((get w (Key s), s) ∷ c) (longer s f c tail);
      leads = λ c shown. stands c shown s f.next;
    }

    -- at the end
    pub whole_chain : next_at w place ≡ 0 → (d : Chain) × ShowsChain w b d
    whole_chain end = r.whole [] (record { shows = sym same_next ∙ end; within = tt; in_range = tt })

    follows : (c : Chain) → ShowsChain w b c → (s : ℕ) → next_at w place ≡ suc s → Follows w b place s
    follows c shown s next =
        let there = stands c shown s next in
        let up = next_rank (next_in w b) (λ t. get w (Key t)) 0 c shown.shows (place_number place) s (subst (Adjacent 0 c (place_number place)) next (behind c shown)) in
        record {
          next = next;
          slot = slot_on (length w.links) 0 c shown.in_range s there (λ e. grind arith);
          above = omega arith;
          bucket = bucket_on (length w.heads) (next_in w b) (λ t. get w (Key t)) b 0 c shown.shows shown.within s there (λ e. grind arith);
        }

    -- where no node may follow, a chain ends
    pub chain_ends : ((s : ℕ) → Follows w b place s → ⊥) → (c : Chain) → ShowsChain w b c → next_at w place ≡ 0
    chain_ends none c shown = by (next_at w place) refl
      where
        by : (n : ℕ) → next_at w place ≡ n → next_at w place ≡ 0
        by zero is = is
        by (suc s) is = absurd (none s (follows c shown s is))

    pub chain_tells : ((s : ℕ) → Follows w b place s → ⊥) → IsTrue (next_at w place == 0) ↔ ((d : Chain) × ShowsChain w b d)
    chain_tells none = grind (arith, whole_chain, chain_ends)

-- What a caller relies on stays when another links a node.
use Rattle.std.proofs.{Common.{◌≡◌, ◌≢◌, ℕ, suc, ◌<◌, false, ◌∷◌, sym, ap, ◌∙◌, subst, arith}, lemmas.Bool.{cases_eq, cases_Bool, Decides.{nat_tests}}}
use mathlib.Core.Bool.{false≢true}
use Rattle.lz_list.specs.declared.publishing.Publishing.TheVariants.{Linked as linked}
use Rattle.lz_list.specs.Traces.{Trace, on, has_key, chain_of, place_of, bucket_of, key_word, next_link, IsLoose, link_above, MayLink, Lawful, Adjacent}
use Rattle.lz_list.proofs.Chains.{PlaceRank.{before_on, adjacent_none}, TraceChain.{words_show_chain, linked_off, apart_bucket}}
use Rattle.lz_list.proofs.Traces.{Absence.{unlinked_is_settled}, Hindsight.{stands}, NodeBits.{on_insert_other}, WalkEnd.{on_insert}}
use Rattle.lz_list.proofs.Changes.CheckedPlace.{place_between}
use Rattle.lz_machine.specs.Stands.{IsLinkable, IsRound, Faces}

module _ (buckets slots : ℕ) (P : Trace) (law : Lawful buckets slots P) where
  -- what Check found, in words of the chain
  pub round_place : (k x n : ℕ) → IsRound buckets k x n P → (place_of buckets k P ≡ x) × (link_above k (chain_of buckets k P) ≡ n) × (has_key k (chain_of buckets k P) ≡ false)
  round_place k x n h =
      let shown = words_show_chain buckets slots P law (bucket_of buckets k) in
      let adj = subst (Adjacent 0 (chain_of buckets k P) x) h.faces.next (stands buckets slots P (bucket_of buckets k) x P law h.faces.there) in
      let between = place_between (next_link buckets (bucket_of buckets k) P) (λ t. key_word t P) k 0 (chain_of buckets k P) shown.shows x n adj h.low h.high in
      (between.0, between.1, adjacent_none (next_link buckets (bucket_of buckets k) P) (λ t. key_word t P) k 0 (chain_of buckets k P) shown.shows x n adj h.low h.high)

  -- so the linking is lawful
  pub may_link : (k x n s : ℕ) → s < slots → IsRound buckets k x n P → IsLinkable buckets k n s P → MayLink buckets slots k s P
  may_link k x n s in_range round ready =
      let place = round_place k x n round in
      record {
        in_range = in_range;
        loose = ready.loose;
        no_member = (unlinked_is_settled buckets k slots P law place.2).0;
        no_node = place.2;
        key = ready.key;
        link = ready.link ∙ sym place.1;
        no_mark = ready.no_mark;
        not_added = ready.not_added;
        not_removed = ready.not_removed;
      }

  module _ (k s p : ℕ) where
    pub loose_stays : (t : ℕ) → t ≢ s → IsLoose buckets t P → IsLoose buckets t (linked k s p ∷ P)
    loose_stays t other loose b = grind (arith, nat_tests, cases_Bool, false≢true, on_insert_other)

    -- a loose slot isn't the place that changes
    pub loose_place : (t : ℕ) → IsLoose buckets t P → place_of buckets k P ≢ suc t
    loose_place t loose is = false≢true (sym (loose (bucket_of buckets k)) ∙ ap (on 0 (chain_of buckets k P)) (sym is) ∙ before_on k 0 (chain_of buckets k P))

    pub ready_stays : (j n t : ℕ) → t ≢ s → IsLinkable buckets j n t P → IsLinkable buckets j n t (linked k s p ∷ P)
    ready_stays j n t other h = grind (arith, nat_tests, loose_stays, loose_place)

    -- a place of bucket j's chain that isn't the one that changes keeps its next link
    pub faces_stays : (j x n : ℕ) → (bucket_of buckets j ≡ bucket_of buckets k → x ≢ place_of buckets k P) → Faces buckets j x n P → Faces buckets j x n (linked k s p ∷ P)
    faces_stays j x n apart h = grind (arith, nat_tests, on_insert, cases_eq, linked_off, apart_bucket, words_show_chain)

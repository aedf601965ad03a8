-- What a caller relies on stays when another takes a node out.
use Rattle.std.proofs.{Common.{◌≡◌, ◌≢◌, inl, inr, ℕ, suc, true, ◌∷◌, sym, ap, ◌∙◌, subst, arith}, lemmas.Bool.{cases_eq, cases_Bool, Decides.{nat_tests}}}
use mathlib.Core.Bool.{false≢true}
use Rattle.lz_list.specs.declared.publishing.Publishing.TheVariants.{Unlinked as unlinked}
use Rattle.lz_list.specs.Traces.{Trace, on, chain, chain_of, place_of, bucket_of, key_word, next_link, IsLoose, MayUnlink, Lawful, Adjacent}
use Rattle.lz_list.proofs.Chains.{PlaceRank.{before_on, on_start, adjacent_next, has_on}, TraceChain.{words_show_chain, unlinked_off, apart_bucket, bucket_on}}
use Rattle.lz_list.proofs.Traces.{Hindsight.{stands}, NodeBits.{on_without, one_node, none_without}, WalkEnd.{on_without_other}}
use Rattle.lz_list.proofs.Changes.CheckedPlace.{place_to}
use Rattle.lz_machine.specs.Stands.{Faces, IsLeaving}

module _ (buckets slots k x s p : ℕ) (P : Trace) (law : Lawful buckets slots P) (mine : IsLeaving buckets k x s P) where
  pub adj : Adjacent 0 (chain_of buckets k P) x (suc s)
  adj = subst (Adjacent 0 (chain_of buckets k P) x) mine.before.faces.next (stands buckets slots P (bucket_of buckets k) x P law mine.before.faces.there)

  pub node_there : on 0 (chain_of buckets k P) (suc s) ≡ true
  node_there = adjacent_next 0 (chain_of buckets k P) x (suc s) adj (λ e. grind arith)

  pub may_unlink : MayUnlink buckets k s P
  may_unlink = record { stands = node_there; key = mine.before.key; no_member = mine.no_member; removed = mine.removed }

  -- the place that changes is the one before the node
  pub place_at : place_of buckets k P ≡ x
  place_at = let shown = words_show_chain buckets slots P law (bucket_of buckets k) in place_to (next_link buckets (bucket_of buckets k) P) (λ t. key_word t P) k s 0 (chain_of buckets k P) shown.shows x adj mine.before.low mine.before.key

  pub loose_place : (t : ℕ) → IsLoose buckets t P → place_of buckets k P ≢ suc t
  loose_place t loose is = false≢true (sym (loose (bucket_of buckets k)) ∙ ap (on 0 (chain_of buckets k P)) (sym is) ∙ before_on k 0 (chain_of buckets k P))

  pub loose_stays : (t : ℕ) → IsLoose buckets t P → IsLoose buckets t (unlinked k s p ∷ P)
  loose_stays t loose b = grind (arith, nat_tests, cases_Bool, false≢true, on_without)

  -- the node is on no chain then
  pub now_loose : IsLoose buckets s (unlinked k s p ∷ P)
  now_loose b = elim (cases_Bool (on 0 (chain buckets b (unlinked k s p ∷ P)) (suc s))) [
    | inl there ↦
        let after = words_show_chain buckets slots (unlinked k s p ∷ P) (may_unlink, law) b in
        let bucket : bucket_of buckets k ≡ b = ap (bucket_of buckets) (sym mine.before.key) ∙ bucket_on buckets (next_link buckets b (unlinked k s p ∷ P)) (λ t. key_word t (unlinked k s p ∷ P)) b 0 (chain buckets b (unlinked k s p ∷ P)) after.shows after.within s there (λ e. grind arith) in
        let has = has_on (next_link buckets b (unlinked k s p ∷ P)) (λ t. key_word t (unlinked k s p ∷ P)) k s 0 (chain buckets b (unlinked k s p ∷ P)) after.shows (omega arith) mine.before.key there in
        let before = words_show_chain buckets slots P law b in
        absurd (false≢true (sym (none_without (next_link buckets b P) (λ t. key_word t P) k 0 (chain buckets b P) before.shows) ∙ grind (arith, nat_tests, has, bucket)))
    | inr off ↦ off
  ]

  -- another place of the chain, not the node itself, keeps its place and its next link
  pub faces_stays : (j y n : ℕ) → (bucket_of buckets j ≡ bucket_of buckets k → (y ≢ x) × (y ≢ suc s)) → Faces buckets j y n P → Faces buckets j y n (unlinked k s p ∷ P)
  faces_stays j y n apart h = grind (arith, nat_tests, cases_eq, unlinked_off, place_at, apart_bucket, words_show_chain, on_start, node_there, on_without_other, one_node)

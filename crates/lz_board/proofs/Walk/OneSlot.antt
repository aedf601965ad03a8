-- A key that is settled as a member throughout has one slot throughout.
use Rattle.std.proofs.{Common.{◌≡◌, ◌≢◌, inl, inr, ℕ, suc, Bool, true, false, [], ◌∷◌, refl, sym, ap, ◌∙◌, subst, arith}, lemmas.Bool.Decides.{nat_tests}}
use mathlib.Core.Bool.{false≢true}
use Rattle.lz_list.specs.declared.publishing.Publishing.{Publishing, TheVariants.{Linked as linked, Marked as marked, Unlinked as unlinked, Settled as settled}}
use Rattle.lz_list.specs.declared.publishing.Publishing.TheVariants.{KeyPrepared as key_prepared, LinkPrepared as link_prepared, Halted as halted}
use Rattle.lz_list.specs.Traces.{Trace, Begins, has_key, on, bucket_of, chain_of, key_word, next_link, member, Lawful, SettledYes}
use Rattle.lz_list.proofs.Traces.{Absence.{begins_itself, unlinked_is_settled}, Hindsight.{lawful_begins}, NodeBits.{node}, TraceWords.{node_of_key}}
use Rattle.lz_list.proofs.{Traces.WalkEnd.{begins_before}, Chains.TraceChain.{words_show_chain}}
use Rattle.lz_board.{specs.{Glances.{Between}, Listings.{IsDurableIn}, Laws.{MembersKeepTheirSlot}}, proofs.Walk.ListedSlot.{its_node}}

module _ (buckets slots k : ℕ) where
  linked_key : (R : Trace) → Lawful buckets slots R → member k R ≡ true → (b : Bool) → has_key k (chain_of buckets k R) ≡ b → has_key k (chain_of buckets k R) ≡ true
  linked_key R law was true is = is
  linked_key R law was false is = absurd (false≢true (sym (unlinked_is_settled buckets k slots R law is).0 ∙ was))

  -- its node is in some slot
  some_slot : (R : Trace) → Lawful buckets slots R → SettledYes R R k → (s : ℕ) × IsDurableIn s k R
  some_slot R law was =
      let shown = words_show_chain buckets slots R law (bucket_of buckets k) in
      let at = node_of_key (next_link buckets (bucket_of buckets k) R) (λ t. key_word t R) k 0 (chain_of buckets k R) shown.shows (linked_key R law was.member (has_key k (chain_of buckets k R)) refl) in
      (at.0, record { settled = was; here = (node buckets slots k at.0 R law at.1 at.2).same })

  stays : (s : ℕ) (e : Publishing) (P : Trace) → Lawful buckets slots (e ∷ P) → IsDurableIn s k P → SettledYes (e ∷ P) (e ∷ P) k → IsDurableIn s k (e ∷ P)
  stays s (linked j t p) P law d was =
      let other : j ≢ k = λ same. false≢true (sym law.0.no_member ∙ ap (λ (q : ℕ). member q P) same ∙ d.settled.member) in
      let apart : t ≢ s = λ same. false≢true (sym (law.0.loose (bucket_of buckets k)) ∙ ap (λ (q : ℕ). on 0 (chain_of buckets k P) (suc q)) same ∙ (its_node buckets slots s k P law.1 d).0) in
      record { settled = was; here = grind (arith, nat_tests, d.here, other, apart) }
  stays s (unlinked j t p) P law d was = record { settled = was; here = d.here }
  stays s (marked j t p) P law d was = record { settled = was; here = d.here }
  stays s (settled t c) P law d was = record { settled = was; here = d.here }
  stays s (key_prepared t v) P law d was = record { settled = was; here = d.here }
  stays s (link_prepared t v) P law d was = record { settled = was; here = d.here }
  stays s halted P law d was = record { settled = was; here = d.here }

  one_slot : (s : ℕ) (P Q : Trace) → Lawful buckets slots Q → Begins P Q → IsDurableIn s k P → ((R : Trace) → Between P R Q → SettledYes R R k) → IsDurableIn s k Q
  one_slot s P [] law begins d all = subst (λ (R : Trace). IsDurableIn s k R) begins d
  one_slot s P (e ∷ Q) law (inl is) d all = subst (λ (R : Trace). IsDurableIn s k R) is d
  one_slot s P (e ∷ Q) law (inr before) d all =
      stays s e Q law (one_slot s P Q law.1 before d (λ R b. all R (record { from = b.from; upto = inr b.upto }))) (all (e ∷ Q) (record { from = inr before; upto = begins_itself (e ∷ Q) }))

pub keeps_its_slot : MembersKeepTheirSlot
keeps_its_slot buckets slots k P Q law begun always =
    let at = some_slot buckets slots k P (lawful_begins buckets slots P Q begun law) (always P (record { from = begins_itself P; upto = begun })) in (
      at.0,
      λ R b. one_slot buckets slots k at.0 P R (lawful_begins buckets slots R Q b.upto law) b.from at.1 (λ S c. always S (record { from = c.from; upto = begins_before S R Q c.upto b.upto })),
    )

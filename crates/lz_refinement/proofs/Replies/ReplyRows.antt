-- What a reply promises, row by row, from what its call may rely on since the pass went in: P is what the pass had seen before
-- the call, P0 the trace at which it went in, Q the trace now.
use Rattle.std.proofs.{Common.{◌≡◌, ⊎_elim, inl, inr, ℕ, suc, true, false, ◌∷◌, length, sym, ap, ◌∙◌, subst, arith, ◌⊎◌}, lemmas.Bool.Decides.{nat_tests}}
use mathlib.Core.Bool.{false≢true}
use Rattle.lz_refinement.proofs.Vocabulary.{Publishing, Trace, Begins, Lawful, member, linking, linking_in, is_settled, is_removed, SettledYes, SettledNo, upto}
use Rattle.lz_refinement.proofs.Vocabulary.{RestsYes, RestsNo, IsSettledChange, own_change, Changes, Rests}
use Rattle.lz_refinement.{proofs.Replies.OwnChange.{OwnChange, own_stands, one_is, two_are, IsChangeOf}, specs.Answers.{Added, Removed}}
use Rattle.lz_refinement.specs.UnderWay.{HasLinked, HasUnlinked}
use Rattle.lz_list.specs.declared.publishing.Publishing.TheVariants.{Linked as linked, Marked as marked, Unlinked as unlinked}
use Rattle.lz_list.proofs.Traces.{Hindsight.{lawful_begins}, WalkEnd.{begins_before}, NodeBits.{node}}
use Rattle.lz_machine.proofs.Ledger.Reply.{upto_is}

-- what was settled since the pass went in was so since the call was made
pub yes_since : (k : ℕ) (P P0 Q : Trace) → Begins P P0 → RestsYes k P0 Q → Rests k true P Q
yes_since k P P0 Q from h = record { then = h.then; between = record { from = begins_before P P0 h.then from h.since.from; upto = h.since.upto }; settled = h.settled }

pub no_since : (k : ℕ) (P P0 Q : Trace) → Begins P P0 → RestsNo k P0 Q → Rests k false P Q
no_since k P P0 Q from h = record { then = h.then; between = record { from = begins_before P P0 h.then from h.since.from; upto = h.since.upto }; settled = h.settled }

-- the trace that a change ends
ends_there : (at : ℕ) (e : Publishing) (earlier Q : Trace) → Begins (e ∷ earlier) Q → length earlier ≡ at → upto (suc at) Q ≡ e ∷ earlier
ends_there at e earlier Q begins long = ap (λ n. upto (suc n) Q) (sym long) ∙ upto_is (e ∷ earlier) Q begins

module _ (k s p : ℕ) (earlier Q : Trace) where
  linked_member : member k (linked k s p ∷ earlier) ≡ true
  linked_member = grind (arith, nat_tests)

  linked_name : linking k (linked k s p ∷ earlier) ≡ suc (length earlier)
  linked_name = grind (arith, nat_tests)

  linked_settled : SettledYes (linked k s p ∷ earlier) Q k ⊎ SettledNo (linked k s p ∷ earlier) Q k → is_settled (suc (length earlier)) Q ≡ true
  linked_settled (inl h) = subst (λ n. is_settled n Q ≡ true) linked_name h.settled
  linked_settled (inr h) = absurd (false≢true (sym h.no_member ∙ linked_member))

  marked_member : member k (marked k s p ∷ earlier) ≡ false
  marked_member = grind (arith, nat_tests)

  -- the node that was marked is that of the key's last linking
  marked_settled : (buckets slots : ℕ) → Lawful buckets slots (marked k s p ∷ earlier) → SettledYes (marked k s p ∷ earlier) Q k ⊎ SettledNo (marked k s p ∷ earlier) Q k → is_removed (linking_in s earlier) Q ≡ true
  marked_settled buckets slots law (inl h) = absurd (false≢true (sym marked_member ∙ h.member))
  marked_settled buckets slots law (inr h) =
      let is = node buckets slots k s earlier law.1 law.0.2 law.0.1 in
      ⊎_elim (λ none. let some = is.some in absurd (omega (arith, none, some))) (λ removed. subst (λ n. is_removed n Q ≡ true) (sym is.same) removed) h.settled

-- an adding that is told yes
pub added : (k p : ℕ) (P P0 Q changes : Trace) → Changes p P Q changes → HasLinked p k changes → Begins P P0 → Begins P0 Q → IsSettledChange k Q (own_change p (length P0) Q) → Added p k P Q
added k p P P0 Q changes made (s, is) from to h =
    let o : OwnChange p h.at P Q changes = own_stands p h.at P P0 Q changes made from to h.is in
    let same : o.change ≡ linked k s p = one_is o.newer o.older o.change (linked k s p) (sym o.has ∙ is) in
    let begins : Begins (linked k s p ∷ o.earlier) Q = subst (λ e. Begins (e ∷ o.earlier) Q) same o.upto in
    record {
      slot = s;
      changes = subst (Changes p P Q) is made;
      earlier = o.earlier;
      from = o.from;
      upto = begins;
      settled = linked_settled k s p o.earlier Q (subst (λ R. SettledYes R Q k ⊎ SettledNo R Q k) (ends_there h.at (linked k s p) o.earlier Q begins o.long) h.settled);
    }

-- of the two changes of a removal the marking is meant
is_marking : (k s p : ℕ) (e : Publishing) → IsChangeOf p e → (e ≡ unlinked k s p) ⊎ (e ≡ marked k s p) → e ≡ marked k s p
is_marking k s p e kind (inl is) = absurd (subst (IsChangeOf p) is kind)
is_marking k s p e kind (inr is) = is

-- a removing that is told yes
pub removed : (k p buckets slots : ℕ) (P P0 Q changes : Trace) → Lawful buckets slots Q → Changes p P Q changes → HasUnlinked p k changes → Begins P P0 → Begins P0 Q → IsSettledChange k Q (own_change p (length P0) Q) → Removed p k P Q
removed k p buckets slots P P0 Q changes law made (s, is) from to h =
    let o : OwnChange p h.at P Q changes = own_stands p h.at P P0 Q changes made from to h.is in
    let same : o.change ≡ marked k s p = is_marking k s p o.change o.kind (two_are o.newer o.older o.change (unlinked k s p) (marked k s p) (sym o.has ∙ is)) in
    let begins : Begins (marked k s p ∷ o.earlier) Q = subst (λ e. Begins (e ∷ o.earlier) Q) same o.upto in
    record {
      slot = s;
      changes = subst (Changes p P Q) is made;
      earlier = o.earlier;
      from = o.from;
      upto = begins;
      settled = marked_settled k s p o.earlier Q buckets slots (lawful_begins buckets slots (marked k s p ∷ o.earlier) Q begins law)
          (subst (λ R. SettledYes R Q k ⊎ SettledNo R Q k) (ends_there h.at (marked k s p) o.earlier Q begins o.long) h.settled);
    }

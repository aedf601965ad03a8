-- What a walker knows of the node on which its walk ended.
use Rattle.std.proofs.{Common.{◌≡◌, ◌≢◌, ◌⊎◌, ⊎_elim, inl, inr, ℕ, suc, true, false, not, [], ◌∷◌, sym, ap, ◌∙◌, subst, arith}, lemmas.Bool.{cases_Bool}}
use Rattle.std.proofs.lemmas.Bool.Decides.{nat_tests}
use mathlib.Core.Bool.{false≢true}
use Rattle.lz_list.specs.{declared.publishing.Publishing.{Publishing}, Traces.{Trace, Begins, Chain, insert, without, on, WordsShow, bucket_of, chain_of}}
use Rattle.lz_list.specs.Traces.{key_word, member, linking, linking_in, is_settled, is_removed, is_marked, has_added, has_removed, Lawful, IsNode, SettledYes}
use Rattle.lz_list.{specs.{Traces.{SettledNo}, Pinned.{Once, Stood, IsKept, IsQuiet}}, proofs.Chains.{PlaceRank.{on_start}, TraceChain.{words_show_chain}}}
use Rattle.lz_list.proofs.Traces.{Absence.{begins_itself}, Hindsight.{once_begins, once_from, once_weaker, key_stays, stood_bucket}, NodeBits.{node}}

pub on_insert : (k s x y : ℕ) (c : Chain) → on x c y ≡ true → on x (insert k s c) y ≡ true
on_insert k s x y [] there = grind arith
on_insert k s x y (n ∷ c) there = grind (arith, on_insert k s (suc n.1) y c)

on_move : (w x y : ℕ) (c : Chain) → on w c y ≡ true → y ≢ w → on x c y ≡ true
on_move w x y [] there other = grind arith
on_move w x y (n ∷ c) there other = grind arith

pub on_without_other : (next keys : ℕ → ℕ) (j s x : ℕ) (c : Chain) → WordsShow next keys x c → keys s ≢ j → on x c (suc s) ≡ true → on x (without j c) (suc s) ≡ true
on_without_other next keys j s x [] h other there = there
on_without_other next keys j s x (n ∷ c) h other there = grind (arith, on_without_other next keys j s (suc n.1) c h.3 other, on_start, on_move)

module _ (buckets slots : ℕ) (P0 : Trace) where
  -- a node leaves its chain only by its own unlinking
  pub leaves : (k s : ℕ) (e : Publishing) (P : Trace) → Lawful buckets slots (e ∷ P) → key_word s P ≡ k → on 0 (chain_of buckets k P) (suc s) ≡ true → on 0
      (chain_of buckets k (e ∷ P)) (suc s) ≡ false → (member k P ≡ false) × (is_removed (linking k P) P ≡ true) × (is_marked s (e ∷ P) ≡ is_marked s P)
  leaves k s e P law key there off = grind (arith, on_insert, words_show_chain, on_without_other)

  pub mark_stays : (b s : ℕ) (e : Publishing) (P : Trace) → IsKept buckets P0 e P → Stood buckets b P0 P (suc s) → is_marked s P ≡ true → is_marked s (e ∷ P) ≡ true
  mark_stays b s e P kept stood is = grind arith

  -- and so does a removed flag
  pub removed_stays : (b s : ℕ) (e : Publishing) (P : Trace) → IsKept buckets P0 e P → Stood buckets b P0 P (suc s) → has_removed s P ≡ true → has_removed s (e ∷ P) ≡ true
  removed_stays b s e P kept stood is = grind arith

  -- a node that stood on the chain stands there still, or k's absence was settled since, and its slot says so
  pub left_surely : (k s : ℕ) (P : Trace) → Lawful buckets slots P → IsQuiet buckets P0 P → Stood buckets (bucket_of buckets k) P0 P (suc s) → key_word s P ≡ k
      → (on 0 (chain_of buckets k P) (suc s) ≡ true) ⊎ (Once P0 P (λ R. SettledNo R R k) × (is_marked s P ≡ true) × (has_removed s P ≡ true))
  left_surely k s [] law quiet stood key = inl stood.1
  left_surely k s (e ∷ P) law quiet (inl now) key = inl now.1
  left_surely k s (e ∷ P) law quiet (inr before) key = elim (left_surely k s P law.1 quiet.1 before was) [
    | inl there ↦ elim (cases_Bool (on 0 (chain_of buckets k (e ∷ P)) (suc s))) [
      | inl still ↦ inl still
      | inr off ↦
          let facts = leaves k s e P law was there off in
          let h = node buckets slots k s P law.1 there was in
          let from = once_begins P0 P (λ R. on 0 (chain_of buckets k R) (suc s) ≡ true) before in
          inr (
            inr (once_from P0 P P (λ R. SettledNo R R k) from (begins_itself P) (record { begins = begins_itself P; no_member = facts.0; settled = inr facts.1 })),
            facts.2 ∙ grind (arith, h.is_member, facts.0),
            removed_stays (bucket_of buckets k) s e P quiet.0 before (h.removed ∙ facts.1),
          )
    ]
    | inr gone ↦ inr (inr gone.0, mark_stays (bucket_of buckets k) s e P quiet.0 before gone.1, removed_stays (bucket_of buckets k) s e P quiet.0 before gone.2)
  ]
    where
      was : key_word s P ≡ k
      was = sym (key_stays buckets slots P0 (bucket_of buckets k) s e P quiet.0 before) ∙ key

pub settled_later : (n : ℕ) (P Q : Trace) → Begins P Q → is_settled n P ≡ true → is_settled n Q ≡ true
settled_later n P [] to is = rw to at is
settled_later n P (e ∷ Q) to is = grind (arith, settled_later n P Q)

pub removed_later : (n : ℕ) (P Q : Trace) → Begins P Q → is_removed n P ≡ true → is_removed n Q ≡ true
removed_later n P [] to is = rw to at is
removed_later n P (e ∷ Q) to is = grind (arith, removed_later n P Q)

pub begins_before : (R P Q : Trace) → Begins R P → Begins P Q → Begins R Q
begins_before R P [] to more = rw more at to
begins_before R P (e ∷ Q) to more = grind (arith, begins_before R P Q)

module _ (buckets slots : ℕ) (P0 : Trace) where
  -- the slot of a node that stood is linked to nothing else meanwhile
  pub linking_stays : (b s : ℕ) (e : Publishing) (P : Trace) → Lawful buckets slots (e ∷ P) → IsQuiet buckets P0 P → Stood buckets b P0 P (suc s) → linking_in s (e ∷ P) ≡ linking_in s P
  linking_stays b s e P law quiet stood = grind (arith, stood_bucket, left_surely)

  pub linking_since : (b s : ℕ) (P Q : Trace) → Lawful buckets slots Q → IsQuiet buckets P0 Q → Begins P Q → Stood buckets b P0 P (suc s) → (linking_in s Q ≡ linking_in s P) × Stood buckets b P0 Q (suc s)
  linking_since b s P [] law quiet to stood = (ap (linking_in s) (sym to), subst (λ (R : Trace). Stood buckets b P0 R (suc s)) to stood)
  linking_since b s P (e ∷ Q) law quiet to stood = grind (arith, linking_since b s P Q, linking_stays)

  module _ (k s : ℕ) (P Q : Trace) (law : Lawful buckets slots P) (quiet : IsQuiet buckets P0 P) (stood : Stood buckets (bucket_of buckets k) P0 P (suc s)) (key : key_word s P ≡ k) (to : Begins P Q) where
    -- a walk that ended on a marked node whose removal is settled by Q
    pub marked_rests : is_marked s P ≡ true → is_removed (linking_in s P) Q ≡ true → Once P0 P (λ R. SettledNo R Q k)
    marked_rests mark is = elim (left_surely buckets slots P0 k s P law quiet stood key) [
      | inl there ↦
          let h = node buckets slots k s P law there key in
          once_from P0 P P (λ R. SettledNo R Q k) (once_begins P0 P (λ R. on 0 (chain_of buckets k R) (suc s) ≡ true) stood) (begins_itself P) (record {
            begins = to;
            no_member = h.is_member ∙ ap not mark;
            settled = inr (rw h.same at is);
          })
      | inr gone ↦ grind (arith, nat_tests, once_weaker, begins_before, removed_later)
    ]

    -- a walk that ended on an unmarked node whose adding is settled by Q
    pub unmarked_rests : is_marked s P ≡ false → is_settled (linking_in s P) Q ≡ true → SettledYes P Q k
    unmarked_rests mark is = elim (left_surely buckets slots P0 k s P law quiet stood key) [
      | inl there ↦
          let h = node buckets slots k s P law there key in
          record { begins = to; member = h.is_member ∙ ap not mark; settled = rw h.same at is }
      | inr gone ↦ absurd (false≢true (sym mark ∙ gone.1))
    ]

  -- What the flags of a node that stood tell of its key, at the trace itself.
  module _ (k s : ℕ) (P : Trace) (law : Lawful buckets slots P) (quiet : IsQuiet buckets P0 P) (stood : Stood buckets (bucket_of buckets k) P0 P (suc s)) (key : key_word s P ≡ k) where
    -- marked, with the removed flag: k's absence was settled then already
    pub marked_was_sure : is_marked s P ≡ true → has_removed s P ≡ true → Once P0 P (λ R. SettledNo R R k)
    marked_was_sure mark is = elim (left_surely buckets slots P0 k s P law quiet stood key) [
      | inl there ↦
          let h = node buckets slots k s P law there key in
          once_from P0 P P (λ R. SettledNo R R k) (once_begins P0 P (λ R. on 0 (chain_of buckets k R) (suc s) ≡ true) stood) (begins_itself P) (record {
            begins = begins_itself P;
            no_member = h.is_member ∙ ap not mark;
            settled = inr (sym h.removed ∙ is);
          })
      | inr gone ↦ gone.0
    ]

    -- not marked, or not settled as removed: it is k's node still
    pub unsure_node : (is_marked s P ≡ false) ⊎ (has_removed s P ≡ false) → IsNode k s P
    unsure_node still = elim (left_surely buckets slots P0 k s P law quiet stood key) [
      | inl there ↦ node buckets slots k s P law there key
      | inr gone ↦ ⊎_elim (λ mark. absurd (false≢true (sym mark ∙ gone.1))) (λ is. absurd (false≢true (sym is ∙ gone.2))) still
    ]

    -- not marked, with the added flag: k is a member, and surely
    pub unmarked_surely : is_marked s P ≡ false → has_added s P ≡ true → SettledYes P P k
    unmarked_surely mark is = grind (arith, unsure_node, begins_itself)

-- A node's bits tell whether its key is a member, and whether its last change is settled.
use Rattle.std.proofs.Common.{◌≡◌, ◌≢◌, inl, inr, ℕ, suc, ◌<◌, ◌≤◌, true, false, not, ◌==◌, [], ◌∷◌, length, refl, sym, ap, ◌∙◌, subst, arith}
use Rattle.std.proofs.lemmas.Bool.{cases_eq, Decides.{nat_tests}}
use Rattle.lz_list.specs.{declared.publishing.Publishing.TheVariants.{Linked as linked}, Traces.{Trace, Chain, insert, without, has_key, on, rank_at}}
use Rattle.lz_list.specs.Traces.{WordsShow, chain_of, key_word, linking, linking_in, is_settled, is_removed, MayLink, Lawful, IsNode}
use Rattle.lz_list.proofs.Chains.{PlaceRank.{apart, rank_on, no_key_below, has_on}, TraceChain.{words_show_chain}}

on_skip : (x y : ℕ) (n : ℕ × ℕ) (c : Chain) → on x c y ≡ true → on x (n ∷ c) y ≡ true
on_skip x y n [] there = grind arith
on_skip x y n (m ∷ c) there = grind arith

pub on_without : (k x y : ℕ) (c : Chain) → on x (without k c) y ≡ true → on x c y ≡ true
on_without k x y [] there = there
on_without k x y (n ∷ c) there = grind (arith, on_without k (suc n.1) y c, on_skip)

pub on_insert_other : (k s x y : ℕ) (c : Chain) → on x (insert k s c) y ≡ true → y ≢ suc s → on x c y ≡ true
on_insert_other k s x y [] there other = grind arith
on_insert_other k s x y (n ∷ c) there other = grind (arith, on_insert_other k s (suc n.1) y c)

module _ (next keys : ℕ → ℕ) where
  -- one node has a key
  pub one_node : (x : ℕ) (c : Chain) → WordsShow next keys x c → (y z : ℕ) → on x c y ≡ true → on x c z ≡ true → rank_at keys y ≡ rank_at keys z → y ≡ z
  one_node x [] h y z at_y at_z same = grind arith
  one_node x (n ∷ c) h y z at_y at_z same = grind (arith, one_node (suc n.1) c h.3 y z, rank_on next keys (suc n.1) c h.3 y, rank_on next keys (suc n.1) c h.3 z)

  pub none_without : (k x : ℕ) (c : Chain) → WordsShow next keys x c → has_key k (without k c) ≡ false
  none_without k x [] h = refl
  none_without k x (n ∷ c) h = grind (arith, none_without k (suc n.1) c h.3, no_key_below next keys k (suc n.1) c h.3)

-- linkings are in the past, and differ by slot
pub linking_below : (t : ℕ) (P : Trace) → linking_in t P ≤ length P
linking_below t [] = omega arith
linking_below t (e ∷ P) = grind (arith, linking_below t P)

pub linking_apart : (s t : ℕ) (P : Trace) → linking_in s P ≡ linking_in t P → 0 < linking_in s P → s ≡ t
linking_apart s t [] same some = absurd (omega arith)
linking_apart s t (e ∷ P) same some = grind (arith, linking_apart s t P, linking_below)

-- no flag is told of what is linked later
pub not_yet : (n : ℕ) (P : Trace) → length P < n → (is_settled n P ≡ false) × (is_removed n P ≡ false)
not_yet n [] late = (refl, refl)
not_yet n (e ∷ P) late = grind (arith, not_yet n P, linking_below)

module _ (buckets slots k s : ℕ) where
  linked_itself : (p : ℕ) (P : Trace) → MayLink buckets slots k s P → IsNode k s (linked k s p ∷ P)
  linked_itself p P may =
      let itself : (k == k) ≡ true = grind (arith, nat_tests) in
      let in_it : (s == s) ≡ true = grind (arith, nat_tests) in
      let late = not_yet (suc (length P)) P (omega arith) in
      let at : linking k (linked k s p ∷ P) ≡ suc (length P) = rw itself in
      record {
        is_member = rw itself (sym (ap not may.no_mark));
        same = rw (itself, in_it);
        some = rw itself (omega arith);
        added = may.not_added ∙ sym late.0 ∙ ap (λ (n : ℕ). is_settled n P) (sym at);
        removed = may.not_removed ∙ sym late.1 ∙ ap (λ (n : ℕ). is_removed n P) (sym at);
      }

  linked_other : (j t p : ℕ) (P : Trace) → j ≢ k → t ≢ s → IsNode k s P → IsNode k s (linked j t p ∷ P)
  linked_other j t p P other apart h = grind arith

  node_linked : (j t p : ℕ) (P : Trace) → Lawful buckets slots (linked j t p ∷ P) → (on 0 (chain_of buckets k P) (suc s) ≡ true → IsNode k s P) → on 0 (chain_of buckets k (linked j t p ∷ P)) (suc s) ≡ true → key_word s P ≡ k → IsNode k s (linked j t p ∷ P)
  node_linked j t p P law before there key = elim (cases_eq t s) [
    | inl slot ↦
        let same : j ≡ k = sym law.0.key ∙ ap (λ (q : ℕ). key_word q P) slot ∙ key in
        subst (λ (q : ℕ). IsNode k s (linked q t p ∷ P)) (sym same) (subst (λ (q : ℕ). IsNode k s (linked k q p ∷ P)) (sym slot) (linked_itself p P (subst (λ (q : ℕ). MayLink buckets slots k q P) slot (subst (λ (q : ℕ). MayLink buckets slots q t P) same law.0))))
    | inr other ↦ grind (arith, nat_tests, on_insert_other, words_show_chain, linked_other, has_on)
  ]

  pub node : (P : Trace) → Lawful buckets slots P → on 0 (chain_of buckets k P) (suc s) ≡ true → key_word s P ≡ k → IsNode k s P
  node [] law there key = absurd (grind (arith, nat_tests))
  node (linked j t p ∷ P) law there key = node_linked j t p P law (λ stood. node P law.1 stood key) there key
  node (e ∷ P) law there key = grind (arith, nat_tests, node P, not_yet, on_insert_other, words_show_chain, apart, has_on, on_without, one_node, linking_apart)

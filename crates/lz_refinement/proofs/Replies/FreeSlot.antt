-- Where a key is linked the members are fewer than the slots: each has a node, in a slot that holds its key, and so has the new one.
use Rattle.std.proofs.Common.{◌≡◌, ℕ, zero, suc, ◌<◌, ◌&&◌, not, if◌then◌else◌, Bool, true, false, List, [], ◌∷◌, ◌++◌, length, refl, sym, ◌∙◌, subst, arith}
use Rattle.std.proofs.{Common.{nat_eq, length-append}, lemmas.Map.{Keys.{IsDistinct-push}, Made.{length-le_from_is_member}}}
use Rattle.std.{proofs.lemmas.Bool.{cases_Bool, cases_eq, and_parts, not-true, or_cases, or_left, or_right, Decides.{nat_tests}}, specs.List.{IsDistinct}}
use Rattle.std.specs.Cmp.{nat_eq_equiv}
use Rattle.lz_refinement.{proofs.Vocabulary.{Keys, Same, members, Trace, bucket_of, key_word, member, Lawful}, specs.OneCaller.{keys_in, HasRoom}}
use Rattle.lz_slot.proofs.Sets.{members_among}
use Rattle.lz_list.{specs.declared.publishing.Publishing.TheVariants.{Linked as linked}, proofs.Chains.TraceChain.{words_show_chain}}
use Rattle.lz_list.proofs.Traces.{Absence.{unlinked_is_settled}, TraceWords.{node_of_key}}
use Rattle.lz_machine.proofs.{Alone.Size.{members_append, none_distinct}, Frames.Ranges.{on_range}}

-- the keys that the first n slots hold
abbrev slot_keys : Trace → ℕ → List ℕ
slot_keys P zero = []
slot_keys P (suc n) = slot_keys P n ++ key_word n P ∷ []

count : (P : Trace) (n : ℕ) → length (slot_keys P n) ≡ n
count P zero = refl
count P (suc n) = omega (arith, count P n, length-append (slot_keys P n) (key_word n P ∷ []))

slot_has : (P : Trace) (n s : ℕ) → s < n → members (slot_keys P n) (key_word s P) ≡ true
slot_has P zero s lt = absurd (omega (arith, lt))
slot_has P (suc n) s lt = grind (arith, nat_tests, members_append, key_word, cases_eq, or_right, members, or_left, slot_has P n s)

and_true : (a b : Bool) → a ≡ true → b ≡ true → (a && b) ≡ true
and_true a b one other = rw (one, other) refl

-- the keys of a list that pass a test, each once
abbrev picked : (ℕ → Bool) → List ℕ → List ℕ
picked test [] = []
picked test (x ∷ xs) = if test x && not (members (picked test xs) x) then picked test xs ++ x ∷ [] else picked test xs

picked_distinct : (test : ℕ → Bool) (xs : List ℕ) → IsDistinct nat_eq (picked test xs)
picked_distinct test [] = none_distinct
picked_distinct test (x ∷ xs) = go (test x && not (members (picked test xs) x)) refl (picked_distinct test xs)
  where
    go : (b : Bool) → (test x && not (members (picked test xs) x)) ≡ b → IsDistinct nat_eq (picked test xs) → IsDistinct nat_eq (if b then picked test xs ++ x ∷ [] else picked test xs)
    go false is before = before
    go true is before = IsDistinct-push nat_eq_equiv (picked test xs) x before (sym (members_among (picked test xs) x) ∙ not-true (members (picked test xs) x) (and_parts (test x) (not (members (picked test xs) x)) is).1)

picked_members : (test : ℕ → Bool) (xs : List ℕ) (q : ℕ) → members (picked test xs) q ≡ (test q && members xs q)
picked_members test [] q = grind (arith, nat_tests)
picked_members test (x ∷ xs) q = grind (arith, nat_tests, members, picked_members test xs q, members_append)

module _ (buckets slots k s p : ℕ) (P : Trace) (law : Lawful buckets slots (linked k s p ∷ P)) where
  member_slot : (q : ℕ) → member q P ≡ true → members (slot_keys P slots) q ≡ true
  member_slot q is = grind (arith, cases_Bool, node_of_key, bucket_of, words_show_chain, slot_has, on_range, unlinked_is_settled)

  own_slot : members (slot_keys P slots) k ≡ true
  own_slot = subst (λ (j : ℕ). members (slot_keys P slots) j ≡ true) law.0.key (slot_has P slots s law.0.in_range)

  -- the members, and with them the new key
  abbrev keys : List ℕ
  keys = picked (keys_in P) (slot_keys P slots)

  all_keys : (q : ℕ) → member q P ≡ members keys q
  all_keys q = grind (arith, cases_Bool, picked_members, and_true, member_slot)

  distinct : IsDistinct nat_eq (keys ++ k ∷ [])
  distinct = IsDistinct-push nat_eq_equiv keys k (picked_distinct (keys_in P) (slot_keys P slots)) (sym (members_among keys k) ∙ sym (all_keys k) ∙ law.0.no_member)

  held : (q : ℕ) → members (keys ++ k ∷ []) q ≡ true → members (slot_keys P slots) q ≡ true
  held q is = grind (arith, nat_tests, or_cases, members, members_append, member_slot, all_keys, own_slot)

  fewer : length keys < slots
  fewer =
      let le = length-le_from_is_member nat_eq_equiv (keys ++ k ∷ []) (slot_keys P slots) distinct
      (λ q is. sym (members_among (slot_keys P slots) q) ∙ held q (members_among (keys ++ k ∷ []) q ∙ is)) in
      omega (arith, le, count P slots, length-append keys (k ∷ []))

  -- so the set of the members has room
  pub room : (S : Keys) → Same S (keys_in P) → HasRoom slots S
  room S same = (length keys, record { keys = keys; count = refl; distinct = picked_distinct (keys_in P) (slot_keys P slots); all = λ q. same q ∙ all_keys q }, fewer)

-- The nodes with which a life begins: the slots that an open found with a key, each on its key's chain, and all others loose.
use Rattle.std.proofs.Common.{◌≡◌, ◌≢◌, ℕ, zero, suc, ◌<◌, ◌≤◌, true, false, ◌||◌, List, [], ◌∷◌, ◌++◌, refl, sym, ap, ◌∙◌, subst, inl, inr, arith}
use Rattle.std.proofs.lemmas.{Bool.{cases_Bool, cases_eq, Decides.{nat_tests, eqb_tells}}, List.{append-nil}}
use mathlib.Core.Bool.{false≢true}
use Rattle.lz_slot.specs.{declared.slot.SlotRead.{SlotRead, TheVariants.{Member}}, Bytes.{slot_at, held, held_key}, Nodes.{has_node}}
use Rattle.lz_vault.specs.Stages.{IsReadShut}
use Rattle.lz_list.specs.Traces.{Chain, has_key, has_slot, on, chain, chain_of, key_word, linking, is_marked, is_removed, opening, IsFound, IsLoose}
use Rattle.lz_list.proofs.{Traces.{NodeBits.{on_insert_other}, WalkEnd.{on_insert}}, Changes.NodeLink.{inserted_on}}
use Rattle.lz_list.proofs.Chains.ChainNode.{node_slot, has_key_append, has_slot_append, has_node_append}

-- the trace of what was found
module _ (buckets : ℕ) where
  pub off_chains : (s : ℕ) (found : Chain) → has_slot s found ≡ false → IsLoose buckets s (opening buckets found)
  off_chains s [] none b = grind (arith, nat_tests)
  off_chains s (f ∷ found) none b = elim (cases_Bool (on 0 (chain buckets b (opening buckets (f ∷ found))) (suc s))) [
    | inl there ↦ absurd (false≢true (sym (off_chains s found (grind (arith, nat_tests)) b) ∙ grind (arith, nat_tests, on_insert_other f.0 f.1 0 (suc s) (chain buckets b (opening buckets found)))))
    | inr off ↦ off
  ]

  pub node_key : (slots k s : ℕ) (found : Chain) → IsFound slots found → has_node k s found ≡ true → key_word s (opening buckets found) ≡ k
  node_key slots k s [] is has = absurd (false≢true has)
  node_key slots k s (f ∷ found) is has = grind (arith, nat_tests, eqb_tells, node_slot, node_key slots k s found is.3)

  pub node_on : (k s : ℕ) (found : Chain) → has_node k s found ≡ true → on 0 (chain_of buckets k (opening buckets found)) (suc s) ≡ true
  node_on k s [] has = absurd (false≢true has)
  node_on k s (f ∷ found) has = grind (arith, nat_tests, cases_Bool, node_on k s found, on_insert, inserted_on)

  pub none_marked : (s : ℕ) (found : Chain) → is_marked s (opening buckets found) ≡ false
  none_marked s [] = refl
  none_marked s (f ∷ found) = grind (arith, nat_tests, none_marked s found)

  pub none_removed : (n : ℕ) (found : Chain) → is_removed n (opening buckets found) ≡ false
  none_removed n [] = refl
  none_removed n (f ∷ found) = grind (arith, nat_tests, none_removed n found)

  pub never_linked : (k : ℕ) (found : Chain) → has_key k found ≡ false → linking k (opening buckets found) ≡ 0
  never_linked k [] none = refl
  never_linked k (f ∷ found) none = grind (arith, nat_tests, never_linked k found)

-- the slots of a text
module _ (t : List ℕ) where
  slot_of_read : (n s : ℕ) → n ≢ s → (r : SlotRead) → has_slot s (held t n) ≡ false → (has_slot s (held t n) || has_slot s (held_key r n)) ≡ false
  slot_of_read n s other _ none = grind (arith, nat_tests)

  slot_later : (n s : ℕ) → n ≤ s → has_slot s (held t n) ≡ false
  slot_later zero s le = refl
  slot_later (suc n) s le = has_slot_append s (held t n) (held_key (slot_at t n) n) ∙ slot_of_read n s (λ same. absurd (omega (arith, le, same))) (slot_at t n) (slot_later n s (omega arith))

  -- a closed slot isn't held
  none_of_shut : (n s : ℕ) (r : SlotRead) → IsReadShut r → has_slot s (held_key r n) ≡ false
  none_of_shut n s r h = grind (arith, nat_tests)

  pub slot_closed : (n s : ℕ) → IsReadShut (slot_at t s) → has_slot s (held t n) ≡ false
  slot_closed zero s shut = refl
  slot_closed (suc n) s shut = elim (cases_eq n s) [
    | inl same ↦
        let here : IsReadShut (slot_at t n) = subst (λ (q : ℕ). IsReadShut (slot_at t q)) (sym same) shut in
        has_slot_append s (held t n) (held_key (slot_at t n) n) ∙ rw (slot_closed n s shut, none_of_shut n s (slot_at t n) here) refl
    | inr other ↦ has_slot_append s (held t n) (held_key (slot_at t n) n) ∙ slot_of_read n s other (slot_at t n) (slot_closed n s shut)
  ]

  -- one with a key is
  pub node_held : (n k s : ℕ) → s < n → slot_at t s ≡ Member k → has_node k s (held t n) ≡ true
  node_held zero k s lt is = absurd (omega arith)
  node_held (suc n) k s lt is = elim (cases_eq n s) [
    | inl same ↦
        let here : slot_at t n ≡ Member k = ap (slot_at t) same ∙ is in
        has_node_append k s (held t n) (held_key (slot_at t n) n) ∙ rw here (grind (arith, nat_tests, same))
    | inr other ↦ has_node_append k s (held t n) (held_key (slot_at t n) n) ∙ grind (arith, node_held n k s (omega (arith, other)) is)
  ]

  -- a key that is held stands in a slot
  abbrev pub IsIn : ℕ → ℕ → Type 0
  IsIn n k = (i : ℕ) × (i < n) × (slot_at t i ≡ Member k)

  key_of_read : (n k : ℕ) (r : SlotRead) → slot_at t n ≡ r → (has_key k (held t n) ≡ true → IsIn n k) → (has_key k (held t n) || has_key k (held_key r n)) ≡ true → IsIn (suc n) k
  key_of_read n k (Member j) at before passes = elim (cases_eq j k) [
    | inl same ↦ (n, omega arith, at ∙ ap Member same)
    | inr other ↦ let found = before (grind (arith, nat_tests)) in (found.0, omega (arith, found.1), found.2)
  ]
  key_of_read n k _ at before passes = let found = before (grind (arith, nat_tests)) in (found.0, omega (arith, found.1), found.2)

  pub key_held : (n k : ℕ) → has_key k (held t n) ≡ true → IsIn n k
  key_held zero k is = absurd (false≢true is)
  key_held (suc n) k is = key_of_read n k (slot_at t n) refl (key_held n k) (sym (has_key_append k (held t n) (held_key (slot_at t n) n)) ∙ is)

  abbrev pub HasNoKeyTwice : ℕ → Type 0
  HasNoKeyTwice N = (i j k : ℕ) → i < N → j < N → slot_at t i ≡ Member k → slot_at t j ≡ Member k → i ≡ j

  found_append : (slots k s : ℕ) (c : Chain) → IsFound slots c → s < slots → has_key k c ≡ false → has_slot s c ≡ false → IsFound slots (c ++ (k, s) ∷ [])
  found_append slots k s [] h lt no_key no_slot = (lt, refl, refl, tt)
  found_append slots k s (f ∷ c) h lt no_key no_slot = grind (arith, nat_tests, has_key_append, has_slot_append, found_append slots k s c h.3 lt)

  found_of_read : (N n : ℕ) → HasNoKeyTwice N → n < N → (r : SlotRead) → slot_at t n ≡ r → IsFound N (held t n) → IsFound N (held t n ++ held_key r n)
  found_of_read N n once lt (Member k) at rest = grind (arith, found_append, cases_Bool, key_held, slot_later)
  found_of_read N n once lt _ at rest = subst (IsFound N) (sym (append-nil (held t n))) rest

  pub held_found : (N n : ℕ) → HasNoKeyTwice N → n ≤ N → IsFound N (held t n)
  held_found N zero once le = tt
  held_found N (suc n) once le = found_of_read N n once (omega arith) (slot_at t n) refl (held_found N n once (omega arith))

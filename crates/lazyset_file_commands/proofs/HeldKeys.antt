-- The keys that the slots of a file hold, in the order of the slots.
use Rattle.lz_slot.specs.declared.slot.SlotRead.TheVariants as read
use Rattle.std.proofs.Common.{◌≡◌, ◌≢◌, ⊎_elim, ℕ, zero, suc, ◌<◌, ◌≤◌, true, false, List, [], ◌∷◌, ◌++◌, nat_eq, refl, sym, ap, subst, ◌∙◌, arith}
use Rattle.std.proofs.lemmas.{Bool.{cases_eq, or_cases, eqb-true, eq-eqb, Decides.{nat_tests}}, List.{append-nil, map-append}}
use Rattle.std.proofs.lemmas.{List.{Elements.{All-nil, All-map, All-head, All-tail, All-push, All-weaker}, Folds.{list_any-append}}, Map.Keys.{IsDistinct-push}}
use Rattle.std.specs.{Prelude.{All, map, ◌||◌, ◌==◌}, Cmp.{nat_eq_equiv}, List.{IsDistinct, list_any}}
use Rattle.lz_slot.specs.{Rooms.{largest_of}, Sets.{Keys as SetOf, Same, members}, Bytes.{Holds, format_of, held, held_key, slot_at, slot_bytes}}
use Rattle.lz_slot.{specs.declared.slot.SlotRead.{SlotRead}, proofs.Files.{ExactBytes.{read_fits}, HeldSets.{holds_same_set}}}
use Rattle.lz_judge.specs.Surveys.{open_slot, open_slots}
use Rattle.lz_vault.specs.Renewals.{AreHeldBy}
use Rattle.lz_scan_client.proofs.OneEach.{none_twice}

-- the keys that a file's slots hold, with their slots
module _ (t : List ℕ) where
  abbrev pub says : ℕ → SlotRead
  says i = slot_at t i

  -- the node is that of a slot below n
  abbrev pub IsNodeBelow : ℕ → ℕ × ℕ → Type 0
  IsNodeBelow n node = (node.1 < n) × (says node.1 ≡ read.Member node.0)

  nodes_said : (n : ℕ) (said : SlotRead) → says n ≡ said → All (IsNodeBelow n) (held t n) → All (IsNodeBelow (suc n)) (held t n ++ held_key said n)
  nodes_said n (read.Member k) is nodes =
      All-push (IsNodeBelow (suc n)) (held t n) (k, n) (All-weaker (IsNodeBelow n) (IsNodeBelow (suc n)) (λ node (low, there). (omega (arith, low), there)) (held t n) nodes) (omega arith, is)
  nodes_said n _ is nodes = rw (append-nil (held t n)) (All-weaker (IsNodeBelow n) (IsNodeBelow (suc n)) (λ node (low, there). (omega (arith, low), there)) (held t n) nodes)

  pub nodes : (n : ℕ) → All (IsNodeBelow n) (held t n)
  nodes zero = All-nil (IsNodeBelow 0)
  nodes (suc n) = nodes_said n (says n) refl (nodes n)

  slots_said : (n : ℕ) (said : SlotRead) → said ≢ read.BadKey → map (λ (node : ℕ × ℕ). node.1) (held_key said n) ≡ open_slot said n
  slots_said n said sound = grind (arith, nat_tests)

  pub slots : (n : ℕ) → ((i : ℕ) → i < n → says i ≢ read.BadKey) → map (λ (node : ℕ × ℕ). node.1) (held t n) ≡ open_slots says n
  slots zero sound = refl
  slots (suc n) sound =
      map-append (λ (node : ℕ × ℕ). node.1) (held t n) (held_key (says n) n)
      ∙ (λ i. slots n (λ j low. sound j (omega (arith, low))) i ++ slots_said n (says n) (sound n (omega arith)) i)

  -- the keys alone
  abbrev pub keys : ℕ → List ℕ
  keys n = map (λ (node : ℕ × ℕ). node.0) (held t n)

  keys_said : (n : ℕ) (said : SlotRead) → map (λ (node : ℕ × ℕ). node.0) (held t n ++ held_key said n) ≡ keys n ++ map (λ (node : ℕ × ℕ). node.0) (held_key said n)
  keys_said n said = map-append (λ (node : ℕ × ℕ). node.0) (held t n) (held_key said n)

  -- a key that another slot holds
  no_node : (k : ℕ) (nodes : List (ℕ × ℕ)) → All (λ node. nat_eq k node.0 ≡ false) nodes → list_any (nat_eq k) (map (λ (node : ℕ × ℕ). node.0) nodes) ≡ false
  no_node k [] all = refl
  no_node k (node ∷ nodes) all =
      let P : ℕ × ℕ → Type 0 = λ node. nat_eq k node.0 ≡ false in
      let here = All-head P node nodes all in
      let rest = no_node k nodes (All-tail P node nodes all) in
      rw here rest

  -- a key that a slot holds is among them
  in_said : (n k : ℕ) → says n ≡ read.Member k → members (map (λ (node : ℕ × ℕ). node.0) (held_key (says n) n)) k ≡ true
  in_said n k is = let here : (k == k) ≡ true = eq-eqb k k refl in rw is (rw here refl)

  pub has_key : (n i k : ℕ) → i < n → says i ≡ read.Member k → members (keys n) k ≡ true
  has_key zero i k low is = absurd (omega (arith, low))
  has_key (suc n) i k low is =
      let parts : members (keys (suc n)) k ≡ (members (keys n) k || members (map (λ (node : ℕ × ℕ). node.0) (held_key (says n) n)) k) =
      ap (λ (ks : List ℕ). members ks k) (keys_said n (says n)) ∙ list_any-append (λ (q : ℕ). q == k) (keys n) (map (λ (node : ℕ × ℕ). node.0) (held_key (says n) n)) in
      ⊎_elim
      (λ last. let here = in_said n k (ap says (sym last) ∙ is) in grind (arith, nat_tests, parts, here))
      (λ other. let before = has_key n i k (omega (arith, low, other)) is in grind (arith, nat_tests, parts, before))
      (cases_eq i n)

  -- and one that is among them is held by a slot
  node_of : (P : ℕ × ℕ → Type 0) (k : ℕ) (nodes : List (ℕ × ℕ)) → All P nodes → members (map (λ (node : ℕ × ℕ). node.0) nodes) k ≡ true → (node : ℕ × ℕ) × P node × (node.0 ≡ k)
  node_of P k [] all has = absurd cc
  node_of P k (node ∷ nodes) all has = ⊎_elim
      (λ here. (node, All-head P node nodes all, eqb-true node.0 k here))
      (λ there. node_of P k nodes (All-tail P node nodes all) there)
      (or_cases (node.0 == k) (members (map (λ (node : ℕ × ℕ). node.0) nodes) k) has)

  pub held_by : (n k : ℕ) → members (keys n) k ≡ true → (i : ℕ) × (i < n) × (says i ≡ read.Member k)
  held_by n k has = let (node, (low, is), same) = node_of (IsNodeBelow n) k (held t n) (nodes n) has in (node.1, low, is ∙ ap (λ (q : ℕ). read.Member q) same)

  module _ (N : ℕ) (S : SetOf) (holds : Holds t N S) where
    -- they are the set that the file holds
    pub same_set : Same S (members (keys N))
    same_set k = grind (arith, nat_tests, has_key, held_by)

    pub are_held : AreHeldBy t (keys N)
    are_held = (N, holds_same_set t N S (members (keys N)) same_set holds, refl)

    -- each is one of the file's format
    pub fit : All (λ k. k ≤ largest_of (format_of t)) (keys N)
    fit = All-map (λ (k : ℕ). k ≤ largest_of (format_of t)) (λ (node : ℕ × ℕ). node.0) (held t N)
        (All-weaker (IsNodeBelow N) (λ node. node.0 ≤ largest_of (format_of t)) (λ node (low, is). read_fits (format_of t) (slot_bytes t node.1) node.0 is) (held t N) (nodes N))

    -- and none stands twice
    differs : (n k : ℕ) → n < N → says n ≡ read.Member k → (node : ℕ × ℕ) → IsNodeBelow n node → nat_eq k node.0 ≡ false
    differs n k small is node (low, there) = ⊎_elim
        (λ same. absurd (let one : n ≡ node.1 = holds.no_key_twice n node.1 k small (omega (arith, low, small)) is (there ∙ ap (λ (q : ℕ). read.Member q) (sym same)) in omega (arith, one, low)))
        (λ apart. grind (arith, nat_tests, apart))
        (cases_eq k node.0)

    once_said : (n : ℕ) (said : SlotRead) → n < N → says n ≡ said → IsDistinct nat_eq (keys n) → IsDistinct nat_eq (map (λ (node : ℕ × ℕ). node.0) (held t n ++ held_key said n))
    once_said n (read.Member k) small is once =
        subst (IsDistinct nat_eq) (sym (keys_said n (read.Member k)))
        (IsDistinct-push nat_eq_equiv (keys n) k once (no_node k (held t n) (All-weaker (IsNodeBelow n) (λ node. nat_eq k node.0 ≡ false) (differs n k small is) (held t n) (nodes n))))
    once_said n _ small is once = rw (append-nil (held t n)) once

    once_below : (n : ℕ) → n ≤ N → IsDistinct nat_eq (keys n)
    once_below zero le = none_twice
    once_below (suc n) le = once_said n (says n) (omega (arith, le)) refl (once_below n (omega (arith, le)))

    pub once : IsDistinct nat_eq (keys N)
    once = once_below N (omega arith)

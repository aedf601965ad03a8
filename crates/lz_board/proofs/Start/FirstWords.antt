-- The words after an opening of members show these members, so a board of such words begins with just that trace.
use Rattle.std.proofs.Common.{◌≡◌, ◌≢◌, inl, inr, ℕ, zero, suc, ◌+◌, ◌*◌, ◌^◌, ◌<◌, ◌≤◌, true, false, ◌||◌, List, [], ◌∷◌, ◌++◌, length, Option, Some, None}
use Rattle.std.proofs.{Common.{refl, sym, ap, ◌∙◌, subst, arith}, lemmas.{Bool.{cases_eq, lt-ltb, Decides.{nat_tests, eqb_tells}}, List.{length-replicate}}}
use Rattle.std.specs.Prelude.{nat_lt}
use mathlib.Core.Bool.{false≢true}
use Rattle.lz_slot.specs.{declared.slot.SlotRead.{SlotRead, TheVariants.{Closed, Torn, Member, BadKey}}, Bytes.{slot_at, held, held_key}, Nodes.{has_node}}
use Rattle.lz_list.specs.{declared.word.Word.TheVariants.{Head, Link, Key}, Words.{Words, bit_of, link_with}, Traces.{Trace, Chain, has_slot, on, place_before}}
use Rattle.lz_list.specs.Traces.{bucket_of, chain_of, node_next, is_marked, has_added, has_removed, word_after, words_of_trace, opening, IsFound}
use Rattle.lz_list.proofs.{Chains.{PlaceRank.{before_on}, ChainNode.{has_slot_append, has_node_append, node_slot}}, Tables.WordTable.{table_at, length-table}}
use Rattle.lz_machine.{specs.Yards.{Shape, first_trace}, proofs.Open.FirstNodes.{off_chains, node_key, none_marked, held_found}}
use Rattle.lz_board.specs.Opened.{node_if, shown_in, opened_by, AreOpened}

-- the members by slots, the lowest first
abbrev pub node_of : Option ℕ → ℕ → Chain
node_of (Some k) s = (k, s) ∷ []
node_of None s = []

abbrev pub members_by : (ℕ → Option ℕ) → ℕ → Chain
members_by m zero = []
members_by m (suc n) = members_by m n ++ node_of (m n) n

module _ (m : ℕ → Option ℕ) where
  other_slot : (n s : ℕ) → n ≢ s → (o : Option ℕ) → has_slot s (members_by m n) ≡ false → (has_slot s (members_by m n) || has_slot s (node_of o n)) ≡ false
  other_slot n s other (Some k) none = grind (arith, nat_tests)
  other_slot n s other None none = grind (arith, nat_tests)

  no_member : (n s : ℕ) → m s ≡ None → has_slot s (members_by m n) ≡ false
  no_member zero s is = refl
  no_member (suc n) s is = elim (cases_eq n s) [
    | inl same ↦
        let here : m n ≡ None = ap m same ∙ is in
        has_slot_append s (members_by m n) (node_of (m n) n) ∙ rw here (grind (arith, no_member n s is))
    | inr other ↦ has_slot_append s (members_by m n) (node_of (m n) n) ∙ other_slot n s other (m n) (no_member n s is)
  ]

  is_member : (n k s : ℕ) → s < n → m s ≡ Some k → has_node k s (members_by m n) ≡ true
  is_member zero k s lt is = absurd (omega arith)
  is_member (suc n) k s lt is = elim (cases_eq n s) [
    | inl same ↦
        let here : m n ≡ Some k = ap m same ∙ is in
        has_node_append k s (members_by m n) (node_of (m n) n) ∙ rw here (grind (arith, nat_tests, same))
    | inr other ↦ has_node_append k s (members_by m n) (node_of (m n) n) ∙ grind (arith, is_member n k s (omega (arith, other)) is)
  ]

-- what the link word of a slot is after an opening
module _ (B s : ℕ) where
  no_next : (found : Chain) → has_slot s found ≡ false → node_next B s (opening B found) ≡ 0
  no_next [] none = refl
  no_next (f ∷ found) none =
      let c = chain_of B f.0 (opening B found) in
      let less : has_slot s found ≡ false = grind (arith, nat_tests) in
      elim (eqb_tells (place_before f.0 0 c) (suc s)) [
        | inl same ↦ absurd (false≢true (sym (off_chains B s found less (bucket_of B f.0)) ∙ ap (on 0 c) (sym same.1) ∙ before_on f.0 0 c))
        | inr other ↦ grind (arith, nat_tests, other.0, no_next found less)
      ]

  added_in : (found : Chain) → has_added s (opening B found) ≡ has_slot s found
  added_in [] = refl
  added_in (f ∷ found) = grind (arith, nat_tests, added_in found)

  none_removed : (found : Chain) → has_removed s (opening B found) ≡ false
  none_removed [] = refl
  none_removed (f ∷ found) = grind (arith, nat_tests, none_removed found)

  link_closed : (found : Chain) → has_slot s found ≡ false → word_after B (opening B found) (Link s) ≡ 0
  link_closed found none = λ i. link_with (no_next found none i) (record { mark = none_marked B s found i; add_settled = (added_in found ∙ none) i; remove_settled = none_removed found i })

  link_open : (found : Chain) → has_slot s found ≡ true → 0 < word_after B (opening B found) (Link s)
  link_open found has =
      let P = opening B found in
      subst (λ b. 0 < link_with (node_next B s P) (record { mark = is_marked s P; add_settled = b; remove_settled = has_removed s P })) (sym (added_in found ∙ has)) (some (node_next B s P) (bit_of (is_marked s P)) (bit_of (has_removed s P)))
    where
      some : (n a b : ℕ) → 0 < n + 2 ^ 32 * a + 2 ^ 33 * 1 + 2 ^ 34 * b
      some n a b = omega arith

module _ (N B S : ℕ) (m : ℕ → Option ℕ) (found : IsFound N (members_by m N)) where
  abbrev P : Trace
  P = opening B (members_by m N)

  abbrev W : Words
  W = words_of_trace N B S P

  node_shown : (s : ℕ) → s < N → (o : Option ℕ) → m s ≡ o → node_if (nat_lt 0 (word_after B P (Link s))) (word_after B P (Key s)) s ≡ node_of o s
  node_shown s lt None is = ap (λ x. node_if (nat_lt 0 x) (word_after B P (Key s)) s) (link_closed B s (members_by m N) (no_member m N s is))
  node_shown s lt (Some k) is =
      let node = is_member m N k s lt is in
      ap (λ b. node_if b (word_after B P (Key s)) s) (lt-ltb 0 (word_after B P (Link s)) (link_open B s (members_by m N) (node_slot k s (members_by m N) node)))
      ∙ ap (λ j. (j, s) ∷ []) (node_key B N k s (members_by m N) found node)

  all_shown : (n : ℕ) → n ≤ N → shown_in W n ≡ members_by m n
  all_shown zero le = refl
  all_shown (suc n) le =
      (λ i. all_shown n (omega (arith, le)) i ++ node_if (nat_lt 0 (table_at N (λ s. word_after B P (Link s)) n 0 (omega (arith, le)) i)) (table_at N (λ s. word_after B P (Key s)) n 0 (omega (arith, le)) i) n)
      ∙ ap (λ c. members_by m n ++ c) (node_shown n (omega (arith, le)) (m n) refl)

  links_long : length W.links ≡ N
  links_long = length-table N (λ s. word_after B P (Link s))

  heads_long : length W.heads ≡ B
  heads_long = length-table B (λ b. word_after B P (Head b))

  shown : shown_in W (length W.links) ≡ members_by m N
  shown = ap (shown_in W) links_long ∙ all_shown N (omega arith)

  pub opened_is : opened_by W ≡ P
  opened_is = λ i. opening (heads_long i) (shown i)

  pub is_opened : AreOpened W
  is_opened = grind (arith, links_long, shown, heads_long, length-replicate, opened_is)

-- the members that a text holds
abbrev key_read : SlotRead → Option ℕ
key_read (Member k) = Some k
key_read Closed = None
key_read Torn = None
key_read BadKey = None

held_node : (r : SlotRead) (s : ℕ) → held_key r s ≡ node_of (key_read r) s
held_node (Member k) s = refl
held_node Closed s = refl
held_node Torn s = refl
held_node BadKey s = refl

held_by : (t : List ℕ) (n : ℕ) → held t n ≡ members_by (λ s. key_read (slot_at t s)) n
held_by t zero = refl
held_by t (suc n) = λ i. held_by t n i ++ held_node (slot_at t n) n i

-- A life that read this text begins with the words of a board, whose trace at the start is the life's.
pub opens_text : (shape : Shape) (t : List ℕ) (w : Words) → ((i j k : ℕ) → i < shape.slots → j < shape.slots → slot_at t i ≡ Member k → slot_at t j ≡ Member k → i ≡ j)
    → w ≡ words_of_trace shape.slots shape.buckets shape.passes (first_trace shape t) → AreOpened w × (opened_by w ≡ first_trace shape t)
opens_text shape t w once is = grind (arith, held_by, held_found, is_opened, opened_is)

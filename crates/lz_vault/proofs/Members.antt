-- The members that slots hold, listed in any order and by key.
use Rattle.std.proofs.Common.{◌≡◌, ◌≢◌, ◌⊎◌, inl, inr, ℕ, zero, suc, ◌+◌, ◌-◌, ◌<◌, ◌≤◌, Bool, true, false, ◌==◌, List, [], ◌∷◌, ◌++◌, length, get_or, refl}
use Rattle.std.proofs.{Common.{sym, ap, ◌∙◌, subst, arith, length-append, Option, Some, None}, lemmas.Option.{same_Some}}
use Rattle.std.proofs.lemmas.List.{get_or_append_left, get_or_default, get_or_push, Edits.{length-swap, swapped_from_swap}, Sorted.{IsPermutation-keeps}}
use Rattle.std.{proofs.lemmas.Bool.{cases_eq, cases_Bool, cases_lt, Decides.{nat_tests}}, specs.{Prelude.{nat_lt, ◌&&◌, if◌then◌else◌}, List.{swap}}}
use Rattle.std.specs.{List.Sorted.{IsPermutation, IsSorted}, Ordering.{nat_cmp, ordering_then}}
use mathlib.Core.Bool.{false≢true}
use Rattle.lz_vault.specs.{Stages.{Cell}, Members.{member_at, member_in, no_cell, node_at, Ascends, AreApart, AreDistinct, AreListed, AreMembers, AreInOrder}}
use Rattle.lz_vault.specs.Members.{AreNeighbours, AreTwins, IsLowest, lower_twins}
use Rattle.lz_slot.specs.Nodes.{Nodes, has_node}

-- a node is one of the first, or of the others
pub node_cases : (k s : ℕ) (f : ℕ × ℕ) (es : Nodes) → has_node k s (f ∷ es) ≡ true → ((f.0 ≡ k) × (f.1 ≡ s)) ⊎ (has_node k s es ≡ true)
node_cases k s f es there = grind (arith, nat_tests, cases_Bool)

pub node_first : (f : ℕ × ℕ) (es : Nodes) → has_node f.0 f.1 (f ∷ es) ≡ true
node_first f es = grind (arith, nat_tests)

pub node_later : (k s : ℕ) (f : ℕ × ℕ) (es : Nodes) → has_node k s es ≡ true → has_node k s (f ∷ es) ≡ true
node_later k s f es there = grind (arith, nat_tests, there)

-- a node has a place, and what has a place is a node
pub place_of : (k s : ℕ) (es : Nodes) → has_node k s es ≡ true → (i : ℕ) × (i < length es) × (node_at es i ≡ (k, s))
place_of k s [] there = absurd (false≢true there)
place_of k s (f ∷ es) there = elim (node_cases k s f es there) [
  | inl first ↦ (zero, omega arith, (λ i. (first.0 i, first.1 i)))
  | inr later ↦ let at = place_of k s es later in (suc at.0, omega (arith, at.1), at.2)
]

pub node_of : (es : Nodes) (i : ℕ) → i < length es → has_node (node_at es i).0 (node_at es i).1 es ≡ true
node_of [] i lt = absurd (omega (arith, lt))
node_of (f ∷ es) zero lt = node_first f es
node_of (f ∷ es) (suc i) lt = node_later (node_at es i).0 (node_at es i).1 f es (node_of es i (omega (arith, lt)))

-- the list of no slots, and of one slot more
module _ (cells : List Cell) where
  module _ (n : ℕ) (ms : Nodes) (are : AreListed cells n ms) where
    pub none_more : member_at cells n ≡ None → AreListed cells (n + 1) ms
    none_more none = grind (arith, nat_tests, cases_eq)

    pub one_more : (j : ℕ) → member_at cells n ≡ Some j → AreListed cells (n + 1) (ms ++ (j, n) ∷ [])
    one_more j holds = record {
      each = λ i lt. elim (cases_eq i (length ms)) [
        | inl last ↦
            let at = new_at i last in
            (subst (λ (f : ℕ × ℕ). f.1 < n + 1) (sym at) (omega arith), subst (λ (f : ℕ × ℕ). member_at cells f.1 ≡ Some f.0) (sym at) holds)
        | inr other ↦
            let low : i < length ms = omega (arith, lt, size, other) in
            let at = are.each i low in
            (subst (λ (f : ℕ × ℕ). f.1 < n + 1) (sym (old_at i low)) (omega (arith, at.0)), subst (λ (f : ℕ × ℕ). member_at cells f.1 ≡ Some f.0) (sym (old_at i low)) at.1)
      ];
      all = λ k s low is. elim (cases_eq s n) [
        | inl last ↦
            let key : k ≡ j = same_Some k j (sym is ∙ ap (member_at cells) last ∙ holds) in
            (length ms, omega (arith, size), new_at (length ms) refl ∙ (λ i. (sym key i, sym last i)))
        | inr before ↦
            let at = are.all k s (omega (arith, low, before)) is in
            (at.0, omega (arith, at.1, size), old_at at.0 at.1 ∙ at.2)
      ];
      apart = λ i i' lt lt' same. elim (cases_eq i (length ms)) [
        | inl last ↦ elim (cases_eq i' (length ms)) [
          | inl last' ↦ last ∙ sym last'
          | inr other ↦
              let low : i' < length ms = omega (arith, lt', size, other) in
              absurd (omega (arith, (are.each i' low).0, sym (slot_of (new_at i last)) ∙ same ∙ slot_of (old_at i' low)))
        ]
        | inr other ↦
            let low : i < length ms = omega (arith, lt, size, other) in
            elim (cases_eq i' (length ms)) [
              | inl last' ↦ absurd (omega (arith, (are.each i low).0, sym (slot_of (old_at i low)) ∙ same ∙ slot_of (new_at i' last')))
              | inr other' ↦
                  let low' : i' < length ms = omega (arith, lt', size, other') in
                  are.apart i i' low low' (sym (slot_of (old_at i low)) ∙ same ∙ slot_of (old_at i' low'))
            ]
      ];
    }
      where
        size : length (ms ++ (j, n) ∷ []) ≡ length ms + 1
        size = length-append ms ((j, n) ∷ [])

        old_at : (i : ℕ) → i < length ms → node_at (ms ++ (j, n) ∷ []) i ≡ node_at ms i
        old_at i low = get_or_append_left ms ((j, n) ∷ []) (0, 0) i low

        new_at : (i : ℕ) → i ≡ length ms → node_at (ms ++ (j, n) ∷ []) i ≡ (j, n)
        new_at i last = get_or_push ms (j, n) (0, 0) i (sym last)

        slot_of : {f g : ℕ × ℕ} → f ≡ g → f.1 ≡ g.1
        slot_of is = ap (λ (f : ℕ × ℕ). f.1) is

-- the cells of one slot more
module _ (cells : List Cell) (cell : Cell) where
  abbrev grown : List Cell
  grown = cells ++ cell ∷ []

  was_at : (s : ℕ) → s < length cells → member_at grown s ≡ member_at cells s
  was_at s lt = ap member_in (get_or_append_left cells (cell ∷ []) no_cell s lt)

  pub last_at : member_at grown (length cells) ≡ member_in cell
  last_at = ap member_in (get_or_push cells cell no_cell (length cells) refl)

  -- those of the first slots are the same
  pub grown_listed : (ms : Nodes) → AreListed cells (length cells) ms → AreListed grown (length cells) ms
  grown_listed ms are = grind (arith, was_at)

-- two nodes in each other's place
module _ (ms : Nodes) (a b : ℕ) (lt_a : a < length ms) (lt_b : b < length ms) where
  -- where a node stood before
  abbrev moved : ℕ → ℕ
  moved i = if i == a then b else if i == b then a else i

  moved_low : (i : ℕ) → i < length ms → moved i < length ms
  moved_low i lt = grind (arith, nat_tests, lt_a, lt_b, lt)

  moved_twice : (i : ℕ) → moved (moved i) ≡ i
  moved_twice i = grind (arith, nat_tests)

  stood : (i : ℕ) → node_at (swap ms a b) i ≡ node_at ms (moved i)
  stood i =
      let swapped = swapped_from_swap ms (swap ms a b) a b (0, 0) lt_a lt_b refl in
      elim (cases_eq i a) [
        | inl first ↦ ap (node_at (swap ms a b)) first ∙ swapped.0 ∙ ap (node_at ms) (let to : b ≡ moved i = grind (arith, nat_tests, first) in to)
        | inr other ↦ elim (cases_eq i b) [
          | inl second ↦ ap (node_at (swap ms a b)) second ∙ swapped.1 ∙ ap (node_at ms) (let to : a ≡ moved i = grind (arith, nat_tests, second, other) in to)
          | inr apart ↦ swapped.2 i other apart ∙ ap (node_at ms) (let to : i ≡ moved i = grind (arith, nat_tests, other, apart) in to)
        ]
      ]

  swapped_listed : (cells : List Cell) (n : ℕ) → AreListed cells n ms → AreListed cells n (swap ms a b)
  swapped_listed cells n are = record {
    each = λ i lt. subst (λ (f : ℕ × ℕ). (f.1 < n) × (member_at cells f.1 ≡ Some f.0)) (sym (stood i)) (are.each (moved i) (moved_low i (low i lt)));
    all = λ k s lt is.
        let at = are.all k s lt is in
        (moved at.0, omega (arith, moved_low at.0 at.1, size), stood (moved at.0) ∙ ap (node_at ms) (moved_twice at.0) ∙ at.2);
    apart = λ i j lt lt' same.
        let is = are.apart (moved i) (moved j) (moved_low i (low i lt)) (moved_low j (low j lt')) (sym (ap (λ (f : ℕ × ℕ). f.1) (stood i)) ∙ same ∙ ap (λ (f : ℕ × ℕ). f.1) (stood j)) in
        sym (moved_twice i) ∙ ap moved is ∙ moved_twice j;
  }
    where
      size : length (swap ms a b) ≡ length ms
      size = length-swap ms a b

      low : (i : ℕ) → i < length (swap ms a b) → i < length ms
      low i lt = omega (arith, lt, size)

-- in another order they are the same members
pub permuted_listed : (cells : List Cell) (n : ℕ) (ms ns : Nodes) → AreListed cells n ms → IsPermutation ms ns → AreListed cells n ns
permuted_listed cells n ms ns are = IsPermutation-keeps ms (AreListed cells n) are (λ l a b lt_a lt_b is. swapped_listed l a b lt_a lt_b cells n is) ns

module _ (cells : List Cell) (ms : Nodes) (are : AreListed cells (length cells) ms) (up : AreInOrder ms) where
  further : (i d : ℕ) → i + d < length ms → (node_at ms i).0 ≤ (node_at ms (i + d)).0
  further i zero lt = grind arith
  further i (suc d) lt = grind (arith, further i d (omega (arith, lt)))

  far : (i j : ℕ) → i ≤ j → j < length ms → (node_at ms i).0 ≤ (node_at ms j).0
  far i j le lt =
      let to : i + (j - i) ≡ j = omega (arith, le) in
      subst (λ (q : ℕ). (node_at ms i).0 ≤ (node_at ms q).0) to (further i (j - i) (omega (arith, le, lt)))

  -- Where no two neighbours have one key, these are the members by key.
  pub by_key : ((i : ℕ) → i + 1 < length ms → (node_at ms i).0 ≢ (node_at ms (i + 1)).0) → AreMembers cells (length cells) ms
  by_key none = record {
    ascend = ascending ms (λ i lt.
        let next : i + 1 ≡ suc i = omega arith in
        let low : i + 1 < length ms = omega (arith, lt) in
        subst (λ (q : ℕ). (node_at ms i).0 < (node_at ms q).0) next (omega (arith, (up i low).0, none i low)));
    each = λ k s there.
        let at = place_of k s ms there in
        subst (λ (f : ℕ × ℕ). (f.1 < length cells) × (member_at cells f.1 ≡ Some f.0)) at.2 (are.each at.0 at.1);
    all = λ k s low is.
        let at = are.all k s low is in
        subst (λ (f : ℕ × ℕ). has_node f.0 f.1 ms ≡ true) at.2 (node_of ms at.0 at.1);
  }
    where
      after : (f : ℕ × ℕ) (es : Nodes) → ((i : ℕ) → suc i < length (f ∷ es) → (node_at (f ∷ es) i).0 < (node_at (f ∷ es) (suc i)).0) → (i : ℕ) → i < length es → f.0 < (node_at es i).0
      after f es rise zero lt = rise 0 (omega (arith, lt))
      after f es rise (suc i) lt = omega (arith, after f es rise i (omega (arith, lt)), rise (suc i) (omega (arith, lt)))

      ascending : (es : Nodes) → ((i : ℕ) → suc i < length es → (node_at es i).0 < (node_at es (suc i)).0) → Ascends es
      ascending [] rise = tt
      ascending (f ∷ es) rise = (
        (λ k s there.
            let at = place_of k s es there in
            subst (λ (g : ℕ × ℕ). f.0 < g.0) at.2 (after f es rise at.0 at.1)),
        ascending es (λ i lt. rise (suc i) (omega (arith, lt))),
      )

  -- Else the neighbours with the lowest second slot are twins.
  pub lowest_are_twins : (twins : ℕ × ℕ) → IsLowest ms (length ms) (Some twins) → AreTwins cells twins.0 twins.1
  lowest_are_twins twins ((i, lt, (key, first, second)), lowest) =
      let one = are.each i (omega (arith, lt)) in
      let other = are.each (i + 1) lt in
      let differ : (node_at ms i).1 ≢ (node_at ms (i + 1)).1 = λ same. let one_place = are.apart i (i + 1) (omega (arith, lt)) lt same in absurd (omega (arith, one_place)) in
      record {
        order = omega (arith, first, second, (up i lt).1 key, differ);
        range = omega (arith, second, other.0);
        key = (node_at ms i).0;
        one = ap (member_at cells) (sym first) ∙ one.1;
        other = ap (member_at cells) (sym second) ∙ other.1 ∙ ap Some (sym key);
        lowest = below;
      }
    where
      -- the second of two nodes of one key isn't below
      not_below : (k s t p q : ℕ) → p < q → q < length ms → node_at ms p ≡ (k, s) → node_at ms q ≡ (k, t) → twins.1 ≤ t
      not_below k s t p q order lt_q at_p at_q =
          let key_p : (node_at ms p).0 ≡ k = ap (λ (f : ℕ × ℕ). f.0) at_p in
          let key_q : (node_at ms q).0 ≡ k = ap (λ (f : ℕ × ℕ). f.0) at_q in
          let slot_q : (node_at ms q).1 ≡ t = ap (λ (f : ℕ × ℕ). f.1) at_q in
          let before = q - 1 in
          let next : before + 1 ≡ q = omega (arith, order) in
          let from = far p before (omega (arith, order)) (omega (arith, lt_q)) in
          let to = far before q (omega arith) lt_q in
          let same : (node_at ms before).0 ≡ (node_at ms (before + 1)).0 = omega (arith, from, to, key_p, key_q) ∙ ap (λ (x : ℕ). (node_at ms x).0) (sym next) in
          omega (arith, lowest before (omega (arith, next, lt_q)) same, ap (λ (x : ℕ). (node_at ms x).1) next, slot_q)

      below : AreApart cells twins.1
      below a b k low low' is is' = elim (cases_eq a b) [
        | inl same ↦ same
        | inr other ↦
            let range : twins.1 < length cells = omega (arith, second, (are.each (i + 1) lt).0) in
            let at = are.all k a (omega (arith, low, range)) is in
            let at' = are.all k b (omega (arith, low', range)) is' in
            elim (cases_lt at.0 at'.0) [
              | inl before ↦ absurd (omega (arith, not_below k a b at.0 at'.0 before at'.1 at.2 at'.2, low'))
              | inr le ↦ elim (cases_eq at.0 at'.0) [
                | inl one_place ↦ absurd (other (ap (λ (f : ℕ × ℕ). f.1) (sym at.2 ∙ ap (node_at ms) one_place ∙ at'.2)))
                | inr apart ↦ absurd (omega (arith, not_below k b a at'.0 at.0 (omega (arith, le, apart)) at.1 at'.2 at.2, low))
              ]
            ]
      ]

-- so no two slots hold one key
one_node : (k s t : ℕ) (es : Nodes) → Ascends es → has_node k s es ≡ true → has_node k t es ≡ true → s ≡ t
one_node k s t [] up one two = absurd (false≢true one)
one_node k s t (f ∷ es) up one two = grind (arith, nat_tests, node_cases, one_node k s t es up.1)

pub are_distinct : (cells : List Cell) (es : Nodes) → AreMembers cells (length cells) es → AreDistinct cells
are_distinct cells es are i j k low low' one two = one_node k i j es are.ascend (are.all k i low one) (are.all k j low' two)

-- what a sort leaves is in order
pub sorted_in_order : (ms : Nodes) → IsSorted (λ (x y : ℕ × ℕ). ordering_then (nat_cmp x.0 y.0) (nat_cmp x.1 y.1)) ms → AreInOrder ms
sorted_in_order ms sorted i lt = grind (arith, nat_tests, cases_lt, false≢true)

-- one pair of neighbours more
module _ (ms : Nodes) (i : ℕ) (low : 1 ≤ i) where
  abbrev f : ℕ × ℕ
  f = node_at ms (i - 1)

  abbrev g : ℕ × ℕ
  g = node_at ms i

  next : (i - 1) + 1 ≡ i
  next = omega (arith, low)

  abbrev ends : ℕ × ℕ → ℕ
  ends at = at.1

  last_pair : f.0 ≡ g.0 → (j : ℕ) × (j + 1 < i + 1) × AreNeighbours ms j f.1 g.1
  last_pair same = (i - 1, omega (arith, low), (same ∙ ap (λ (x : ℕ). (node_at ms x).0) (sym next), refl, ap (λ (x : ℕ). (node_at ms x).1) next))

  -- a pair is the last one or an earlier one
  pair_cases : (j : ℕ) → j + 1 < i + 1 → ((node_at ms j ≡ f) × (node_at ms (j + 1) ≡ g)) ⊎ (j + 1 < i)
  pair_cases j lt = grind (arith, cases_eq, low)

  from_none : (b : Bool) → (f.0 == g.0) ≡ b → IsLowest ms i None → IsLowest ms (i + 1) (if b then Some (f.1, g.1) else None)
  from_none true is none = grind (arith, nat_tests, last_pair, pair_cases)
  from_none false is none = grind (arith, nat_tests, pair_cases, false≢true)

  from_some : (twins : ℕ × ℕ) (b : Bool) → ((f.0 == g.0) && nat_lt g.1 twins.1) ≡ b → IsLowest ms i (Some twins) → IsLowest ms (i + 1) (if b then Some (f.1, g.1) else Some twins)
  from_some twins true is (there, lowest) = grind (arith, nat_tests, last_pair, pair_cases)
  from_some twins false is (there, lowest) = (
    (there.0, omega (arith, there.1), there.2),
    (λ j lt same. elim (pair_cases j lt) [
      | inl last ↦
          let keys : f.0 ≡ g.0 = sym (ap (λ (n : ℕ × ℕ). n.0) last.0) ∙ same ∙ ap (λ (n : ℕ × ℕ). n.0) last.1 in
          let le : twins.1 ≤ g.1 = grind (arith, nat_tests, is, keys) in
          omega (arith, le, ap ends last.1)
      | inr before ↦ lowest j before same
    ]),
  )

  pub next_lowest : (lowest : Option (ℕ × ℕ)) → IsLowest ms i lowest → IsLowest ms (i + 1) (lower_twins lowest f g)
  next_lowest None is = from_none (f.0 == g.0) refl is
  next_lowest (Some twins) is = from_some twins ((f.0 == g.0) && nat_lt g.1 twins.1) refl is

-- what is read at a place is the node there
pub same_place : (ms : Nodes) (i : ℕ) (node : ℕ × ℕ) → i < length ms → node ≡ get_or ms i node → node ≡ node_at ms i
same_place ms i node low is = is ∙ get_or_default ms i node (0, 0) low

-- all pairs of neighbours
pub all_lowest : (ms : Nodes) (i : ℕ) (lowest : Option (ℕ × ℕ)) → length ms ≤ i → i ≤ 1 + (length ms - 1) → IsLowest ms i lowest → IsLowest ms (length ms) lowest
all_lowest ms i None long range is = λ j lt. is j (omega (arith, long, lt))
all_lowest ms i (Some twins) long range (there, lowest) = ((there.0, omega (arith, there.1, range), there.2), (λ j lt. lowest j (omega (arith, long, lt))))

-- The walk down a tree of free slots, which ends at the lowest free one.
use Rattle.std.proofs.Common.{◌≡◌, ◌≢◌, ⊎_elim, ℕ, zero, suc, ◌+◌, ◌*◌, ◌^◌, ◌/◌, ◌-◌, ◌<◌, ◌≤◌, ◌==◌, Bool, true, false, if◌then◌else◌, List, length, get_or}
use Rattle.std.proofs.{Common.{sym, ◌∙◌, ap, arith, Some, None}, Math.ListN.{get_or-eq_default}, lemmas.List.Sums.{position_or_len_is}}
use Rattle.std.proofs.lemmas.{Nat.Bits.{bit_at-trailing_zeros}, Bool.{cases_lt, lt-ltb, le-ltb, ltb-true, ltb-false, cond-true, cond-false}}
use Rattle.std.{proofs.lemmas.Bool.Decides.{nat_tests}, specs.{Prelude.{nat_lt, length}, Int.{bit_at, trailing_zeros, w64}, List.{position, position_or_len}}}
use Rattle.lz_allot.{specs.Trees.{word_at, is_told, shown, start_of, IsTree}, proofs.Trees.{nothing_told, shown_length, shown_at}}

-- whether a slot is free at this node or below
abbrev pub is_open : List ℕ → ℕ → ℕ → Bool
is_open words first k = if nat_lt k first then nat_lt 0 (word_at words k) else is_told words k

-- A node at which or below which a slot is free, while there is none at those before it at its depth.
pub record IsLowest (words : List ℕ) (first node : ℕ) : Type 0 where
  pub depth : ℕ
  pub within : start_of depth ≤ first
  pub low : start_of depth ≤ node
  pub high : node < start_of (suc depth)
  pub is_free : is_open words first node ≡ true
  pub before : (k : ℕ) → start_of depth ≤ k → k < node → is_open words first k ≡ false

-- where the first true one stands
position_is : (xs : List Bool) (i : ℕ) → i < length xs → ((k : ℕ) → k < i → get_or xs k false ≡ false) → get_or xs i false ≡ true → position (λ b. b) xs ≡ Some i
position_is xs i low before here =
    let first : position_or_len (λ b. b) xs ≡ i = position_or_len_is (λ (b : Bool). b) xs i false (omega arith) before (λ lt. here) in
    rw first (grind (arith, nat_tests))

position_none : (xs : List Bool) → ((k : ℕ) → k < length xs → get_or xs k false ≡ false) → position (λ b. b) xs ≡ None
position_none xs before =
    let first : position_or_len (λ b. b) xs ≡ length xs = position_or_len_is (λ (b : Bool). b) xs (length xs) false (omega arith) before (λ lt. absurd (omega arith)) in
    rw first (grind (arith, nat_tests))

-- the first nodes of the depths rise
starts_rise : (m n : ℕ) → m ≤ n → start_of m ≤ start_of n
starts_rise zero n le = omega arith
starts_rise (suc m) zero le = absurd (omega arith)
starts_rise (suc m) (suc n) le = omega (arith, starts_rise m n (omega arith))

starts_apart : (m n : ℕ) → start_of m < start_of n → m < n
starts_apart m n less = ⊎_elim (λ (lt : m < n). lt) (λ (le : n ≤ m). absurd (omega (arith, starts_rise n m le))) (cases_lt m n)

module _ (words : List ℕ) (first slots : ℕ) (tree : IsTree words first slots) where
  open_inner : (k : ℕ) → k < first → is_open words first k ≡ nat_lt 0 (word_at words k)
  open_inner k low = cond-true (nat_lt k first) (nat_lt 0 (word_at words k)) (is_told words k) (lt-ltb k first low)

  open_leaf : (k : ℕ) → first ≤ k → is_open words first k ≡ is_told words k
  open_leaf k high = cond-false (nat_lt k first) (nat_lt 0 (word_at words k)) (is_told words k) (le-ltb k first high)

  told_open : (k : ℕ) → 1 ≤ k → is_open words first k ≡ is_told words k
  told_open k from = ⊎_elim (λ (low : k < first). open_inner k low ∙ sym (tree.told k from low)) (λ (high : first ≤ k). open_leaf k high) (cases_lt k first)

  word_zero : (k : ℕ) → k < first → is_open words first k ≡ false → word_at words k ≡ 0
  word_zero k low closed = omega (arith, ltb-false 0 (word_at words k) (sym (open_inner k low) ∙ closed))

  -- below a node at which no slot is free there is none
  closed_below : (k : ℕ) → 1 ≤ k → (k - 1) / 64 < first → is_open words first ((k - 1) / 64) ≡ false → is_open words first k ≡ false
  closed_below k from low closed = told_open k from ∙ nothing_told words k (word_zero ((k - 1) / 64) low closed)

  -- a node at some depth that isn't a leaf has its children at the next depth, which is within the tree
  within_next : (depth node : ℕ) → start_of depth ≤ node → node < first → start_of (suc depth) ≤ first
  within_next depth node low less =
      omega (arith, starts_rise (suc depth) tree.start.levels (starts_apart depth tree.start.levels (omega (arith, tree.start.start))), tree.start.start)

  all_closed : word_at words 0 ≡ 0 → (depth : ℕ) → start_of depth ≤ first → (k : ℕ) → start_of depth ≤ k → k < start_of (suc depth) → is_open words first k ≡ false
  all_closed none zero within k low high = grind (arith, open_inner)
  all_closed none (suc depth) within k low high =
      closed_below k (omega arith) (omega (arith, tree.start.least)) (all_closed none depth (omega arith) ((k - 1) / 64) (omega arith) (omega arith))

  -- the walk begins at the root, or there is nothing below it
  pub root_inside : 0 < length words
  root_inside = omega (arith, tree.size, tree.start.least)

  pub lowest_at_root : word_at words 0 ≢ 0 → IsLowest words first 0
  lowest_at_root some = record {
    depth = 0;
    within = omega arith;
    low = omega arith;
    high = omega arith;
    is_free = open_inner 0 (omega (arith, tree.start.least)) ∙ lt-ltb 0 (word_at words 0) (omega arith);
    before = λ k low high. absurd (omega arith);
  }

  pub none_below : word_at words 0 ≡ 0 → position (λ b. b) (shown words first slots) ≡ None
  none_below none =
      position_none (shown words first slots) (λ k lt.
      shown_at words first slots k (omega (arith, shown_length words first slots))
      ∙ sym (open_leaf (first + k) (omega arith))
      ∙ all_closed none tree.start.levels (omega (arith, tree.start.start)) (first + k) (omega (arith, tree.start.start)) (omega (arith, tree.start.start, tree.range, shown_length words first slots)))

  module _ (node : ℕ) (lowest : IsLowest words first node) where
    module _ (less : node < first) where
      not_zero : 0 < word_at words node
      not_zero = ltb-true 0 (word_at words node) (sym (open_inner node less) ∙ lowest.is_free)

      pub inside_words : node < length words
      inside_words = grind (arith, get_or-eq_default, not_zero, cases_lt)

      -- one step down, to the first child of which the word tells
      module _ (at : ℕ) (low : at < 64) (here : bit_at (word_at words node) at ≡ 1) (none : (i : ℕ) → i < at → bit_at (word_at words node) i ≡ 0) where
        told_of : (i : ℕ) → i < 64 → is_told words (64 * node + 1 + i) ≡ (bit_at (word_at words node) i == 1)
        told_of i within = grind arith

        before_child : (k : ℕ) → start_of (suc lowest.depth) ≤ k → k < 64 * node + 1 + at → is_open words first k ≡ false
        before_child k from to =
            ⊎_elim
            (λ (early : k < 64 * node + 1). closed_below k (omega arith) (omega arith) (lowest.before ((k - 1) / 64) (omega arith) (omega arith)))
            (λ (late : 64 * node + 1 ≤ k).
            let i = k - (64 * node + 1) in
            let is : k ≡ 64 * node + 1 + i = omega arith in
            ap (is_open words first) is
            ∙ told_open (64 * node + 1 + i) (omega arith)
            ∙ told_of i (omega arith)
            ∙ ap (λ (bit : ℕ). bit == 1) (none i (omega arith)))
            (cases_lt k (64 * node + 1))

        child : IsLowest words first (64 * node + 1 + at)
        child = record {
          depth = suc lowest.depth;
          within = within_next lowest.depth node lowest.low less;
          low = omega (arith, lowest.low);
          high = omega (arith, lowest.high);
          is_free = told_open (64 * node + 1 + at) (omega arith) ∙ told_of at low ∙ ap (λ (bit : ℕ). bit == 1) here;
          before = before_child;
        }

      pub lowest_child : word_at words node < 2 ^ 64 → IsLowest words first (64 * node + 1 + trailing_zeros w64 (word_at words node))
      lowest_child fits =
          let bits = bit_at-trailing_zeros w64 (word_at words node) not_zero fits in
          child (trailing_zeros w64 (word_at words node)) bits.0 bits.1 bits.2

    -- the walk ends at the lowest slot
    pub lowest_leaf : first ≤ node → (node - first < slots) × (position (λ b. b) (shown words first slots) ≡ Some (node - first))
    lowest_leaf deep =
        let here : first + (node - first) ≡ node = omega arith in
        let told : is_told words node ≡ true = sym (open_leaf node deep) ∙ lowest.is_free in
        let low : node - first < slots = ⊎_elim
        (λ (lt : node - first < slots). lt)
        (λ (past : slots ≤ node - first).
        let none : is_told words node ≡ false = tree.rest node (omega arith) in
        absurd (let never : true ≡ false = sym told ∙ none in cc))
        (cases_lt (node - first) slots) in (
          low,
          position_is (shown words first slots) (node - first) (omega (arith, shown_length words first slots))
              (λ k lt. shown_at words first slots k (omega arith) ∙ sym (open_leaf (first + k) (omega arith)) ∙ lowest.before (first + k) (omega (arith, lowest.within)) (omega arith))
              (shown_at words first slots (node - first) low ∙ ap (is_told words) here ∙ told),
        )

-- A slot that is set in the tree of free slots: what holds on the way up, and what the tree shows at its end.
use Rattle.std.proofs.Common.{◌≡◌, ◌≢◌, ⊎_elim, ℕ, ◌+◌, ◌^◌, ◌/◌, ◌%◌, ◌-◌, ◌<◌, ◌≤◌, Bool, true, false, if◌then◌else◌, List, length, get_or, set, refl, sym}
use Rattle.std.proofs.{Common.{◌∙◌, ap, arith, get_or-set_other, get_or-set_same}, lemmas.List.{ext_get_or, length-set}}
use Rattle.std.proofs.lemmas.{Nat.Bits.{bit_at-zero, same_from_bits_below}, Bool.{cases_eq, cases_lt, lt-ltb, le-ltb, Decides.{nat_tests}}}
use Rattle.std.{proofs.Math.{Bool.{beq, not}, Dec.{eqb}}, specs.{Prelude.{nat_lt, length}, Int.{bit_at}}}
use Rattle.lz_allot.{specs.Trees.{word_at, is_told, shown, IsTree}, proofs.Trees.{told_same, told_other, shown_length, shown_at}}

-- A tree in which a slot is being set: what is told of the node has to be changed, and all else is as it has to be.
pub record IsHalfSet (old words : List ℕ) (first slots s : ℕ) (b : Bool) (node : ℕ) : Type 0 where
  pub size : length words ≡ length old
  pub start : first ≤ node → node ≡ first + s
  pub told : (k : ℕ) → 1 ≤ k → k < first → k ≢ node → is_told words k ≡ nat_lt 0 (word_at words k)
  pub here : 1 ≤ node → node < first → nat_lt 0 (word_at words node) ≡ b
  pub leaf : node < first → is_told words (first + s) ≡ b
  pub others : (k : ℕ) → first ≤ k → k ≢ first + s → is_told words k ≡ is_told old k

-- a number whose bits are those of another, but for one that is cleared, is zero where that is
stays_zero : (was now bit : ℕ) → now < 2 ^ 64 → bit_at now bit ≡ 0 → ((i : ℕ) → i < 64 → i ≢ bit → bit_at now i ≡ bit_at was i) → was ≡ 0 → now ≡ 0
stays_zero was now bit fits here others none =
    same_from_bits_below 64 now 0 fits (omega arith) (λ i lt.
    ⊎_elim (λ same. ap (bit_at now) same ∙ here ∙ sym (bit_at-zero i)) (λ other. others i lt other ∙ ap (λ (w : ℕ). bit_at w i) none) (cases_eq i bit))

-- news above: the word is another than zero where the bit was set, and zero where it was cleared
news : (was now bit : ℕ) (b : Bool) → now < 2 ^ 64 → bit_at now bit ≡ (if b then 1 else 0) → ((i : ℕ) → i < 64 → i ≢ bit → bit_at now i ≡ bit_at was i)
    → nat_lt 0 was ≢ nat_lt 0 now → nat_lt 0 now ≡ b
news was now bit true fits here others other = grind (arith, lt-ltb, bit_at-zero, cases_lt)
news was now bit false fits here others other =
    ⊎_elim
    (λ (more : 0 < now).
    ⊎_elim
    (λ (was_more : 0 < was). absurd (other (lt-ltb 0 was was_more ∙ sym (lt-ltb 0 now more))))
    (λ (was_none : was ≤ 0). let none = stays_zero was now bit fits here others (omega arith) in absurd (omega (arith, none)))
    (cases_lt 0 was))
    (λ (less : now ≤ 0). le-ltb 0 now less)
    (cases_lt 0 now)

module _ (old words : List ℕ) (first slots s : ℕ) (b : Bool) (node : ℕ) (tree : IsTree old first slots) (low : s < slots)
    (half : IsHalfSet old words first slots s b node) (up : 1 ≤ node) where
  at_most : node ≤ first + s
  at_most = ⊎_elim (λ (less : node < first). omega arith) (λ (most : first ≤ node). omega (arith, half.start most)) (cases_lt node first)

  pub inside : (node - 1) / 64 < length words
  inside = omega (arith, at_most, tree.size, half.size)

module _ (old words : List ℕ) (first slots s : ℕ) (b : Bool) (node now : ℕ) (tree : IsTree old first slots) (low : s < slots)
    (half : IsHalfSet old words first slots s b node) (up : 1 ≤ node) (fits : now < 2 ^ 64)
    (here : bit_at now ((node - 1) % 64) ≡ (if b then 1 else 0))
    (others : (i : ℕ) → i < 64 → i ≢ (node - 1) % 64 → bit_at now i ≡ bit_at (word_at words ((node - 1) / 64)) i) where
  high : node ≤ first + s
  high = at_most old words first slots s b node tree low half up

  inside_it : (node - 1) / 64 < length words
  inside_it = inside old words first slots s b node tree low half up

  above_first : (node - 1) / 64 < first
  above_first = omega (arith, high, tree.range, tree.start.least)

  other : (k : ℕ) → 1 ≤ k → k ≢ node → is_told (set words ((node - 1) / 64) now) k ≡ is_told words k
  other = told_other words node now up inside_it others

  same : is_told (set words ((node - 1) / 64) now) node ≡ b
  same = told_same words node now up inside_it b here

  word_other : (k : ℕ) → k ≢ (node - 1) / 64 → word_at (set words ((node - 1) / 64) now) k ≡ word_at words k
  word_other k far = get_or-set_other words ((node - 1) / 64) k now 0 far

  -- below the word that was set all is told
  told_below : (k : ℕ) → 1 ≤ k → k < first → k ≢ (node - 1) / 64 → is_told (set words ((node - 1) / 64) now) k ≡ nat_lt 0 (word_at (set words ((node - 1) / 64) now) k)
  told_below k from to far = grind (arith, set, same, word_other, other, cases_eq)

  leaf : is_told (set words ((node - 1) / 64) now) (first + s) ≡ b
  leaf =
      ⊎_elim
      (λ (is : first + s ≡ node). ap (is_told (set words ((node - 1) / 64) now)) is ∙ same)
      (λ not_it.
      other (first + s) (omega (arith, tree.start.least)) not_it
      ∙ half.leaf (⊎_elim (λ (less : node < first). less) (λ (most : first ≤ node). absurd (not_it (sym (half.start most)))) (cases_lt node first)))
      (cases_eq (first + s) node)

  other_leaves : (k : ℕ) → first ≤ k → k ≢ first + s → is_told (set words ((node - 1) / 64) now) k ≡ is_told old k
  other_leaves k from not_it = grind (arith, other)

  pub half_above : nat_lt 0 (word_at words ((node - 1) / 64)) ≢ nat_lt 0 now → IsHalfSet old (set words ((node - 1) / 64) now) first slots s b ((node - 1) / 64)
  half_above changed = record {
    size = length-set words ((node - 1) / 64) now ∙ half.size;
    start = λ most. absurd (omega (arith, above_first));
    told = told_below;
    here = λ from to. ap (nat_lt 0) (get_or-set_same words ((node - 1) / 64) now 0 inside_it) ∙ news (word_at words ((node - 1) / 64)) now ((node - 1) % 64) b fits here others changed;
    leaf = λ less. leaf;
    others = other_leaves;
  }

  pub half_done : nat_lt 0 (word_at words ((node - 1) / 64)) ≡ nat_lt 0 now → IsHalfSet old (set words ((node - 1) / 64) now) first slots s b 0
  half_done kept = record {
    size = length-set words ((node - 1) / 64) now ∙ half.size;
    start = λ most. absurd (omega (arith, tree.start.least));
    told = λ k from to root. ⊎_elim
        (λ (is : k ≡ (node - 1) / 64).
        other k from (omega (arith, is))
        ∙ half.told k from to (omega (arith, is))
        ∙ ap (λ (j : ℕ). nat_lt 0 (word_at words j)) is
        ∙ kept
        ∙ ap (nat_lt 0) (sym (get_or-set_same words ((node - 1) / 64) now 0 inside_it))
        ∙ ap (λ (j : ℕ). nat_lt 0 (word_at (set words ((node - 1) / 64) now) j)) (sym is))
        (λ far. told_below k from to far)
        (cases_eq k ((node - 1) / 64));
    here = λ from to. absurd (omega arith);
    leaf = λ less. leaf;
    others = other_leaves;
  }

-- the two tests of a word for zero
pub more_than_zero : (w : ℕ) → nat_lt 0 w ≡ not (eqb w 0)
more_than_zero w = grind (arith, nat_tests)

same_tests : (x y : Bool) → beq x y ≡ true → x ≡ y
same_tests false false e = refl
same_tests true true e = refl
same_tests _ _ e = absurd cc

other_tests : (x y : Bool) → beq x y ≡ false → not x ≢ not y
other_tests false false e = λ same. absurd cc
other_tests true true e = λ same. absurd cc
other_tests _ _ e = λ same. absurd cc

pub kept_by : (was now : ℕ) → beq (eqb was 0) (eqb now 0) ≡ true → nat_lt 0 was ≡ nat_lt 0 now
kept_by was now e = more_than_zero was ∙ ap not (same_tests (eqb was 0) (eqb now 0) e) ∙ sym (more_than_zero now)

pub changed_by : (was now : ℕ) → beq (eqb was 0) (eqb now 0) ≡ false → nat_lt 0 was ≢ nat_lt 0 now
changed_by was now e same = other_tests (eqb was 0) (eqb now 0) e (sym (more_than_zero was) ∙ same ∙ more_than_zero now)

-- a slot is set at first, and once nothing is left to be told
module _ (old : List ℕ) (first slots s : ℕ) (b : Bool) (tree : IsTree old first slots) (low : s < slots) where
  pub half_begins : IsHalfSet old old first slots s b (first + s)
  half_begins = record {
    size = refl;
    start = λ most. refl;
    told = λ k from to other. tree.told k from to;
    here = λ from to. absurd (omega arith);
    leaf = λ less. absurd (omega arith);
    others = λ k from other. refl;
  }

  module _ (words : List ℕ) (node : ℕ) (half : IsHalfSet old words first slots s b node) (done : node ≤ 0) where
    pub whole : IsTree words first slots
    whole = record {
      start = tree.start;
      range = tree.range;
      size = omega (arith, tree.size, half.size);
      told = λ k from to. half.told k from to (omega arith);
      rest = λ k past. half.others k (omega arith) (omega arith) ∙ tree.rest k past;
    }

    pub shows_set : shown words first slots ≡ set (shown old first slots) s b
    shows_set =
        let size = shown_length words first slots in
        let was = shown_length old first slots in
        ext_get_or false (shown words first slots) (set (shown old first slots) s b) (omega (arith, size, was, length-set (shown old first slots) s b))
        (λ k lt.
        shown_at words first slots k (omega (arith, size)) ∙ ⊎_elim
        (λ (is : k ≡ s).
        ap (λ (j : ℕ). is_told words (first + j)) is
        ∙ half.leaf (omega (arith, tree.start.least))
        ∙ sym (get_or-set_same (shown old first slots) s b false (omega (arith, was)))
        ∙ ap (λ (j : ℕ). get_or (set (shown old first slots) s b) j false) (sym is))
        (λ other.
        half.others (first + k) (omega arith) (omega arith)
        ∙ sym (shown_at old first slots k (omega (arith, size)))
        ∙ sym (get_or-set_other (shown old first slots) s k b false other))
        (cases_eq k s))

-- A tree of free slots that is filled from below: the words of the slots, and then what is told of each node in the word above it.
use Rattle.lz_allot.specs.declared.kind.Kind.TheVariants as kind
use Rattle.std.proofs.Common.{◌≡◌, ◌≢◌, ⊎_elim, ℕ, zero, suc, ◌+◌, ◌*◌, ◌/◌, ◌%◌, ◌-◌, ◌<◌, ◌≤◌, ◌==◌, false, if◌then◌else◌, List, length, set, map, sym, ◌∙◌}
use Rattle.std.proofs.{Common.{ap, arith, get_or-set_other, get_or-set_same}, Math.ListN.{get_or-eq_default}}
use Rattle.std.{proofs.lemmas.{List.{ext_get_or, get_or-map, length-map, length-set}, Bool.{cases_lt}}, specs.{Prelude.{nat_lt, length}, Int.{bit_at}}}
use Rattle.lz_slot.specs.Limits.{most_slots}
use Rattle.lz_allot.specs.{declared.kind.Kind.{Kind}, Allots.{is_free_kind, kind_at}, Trees.{word_at, is_told, shown, start_of, IsStart, IsTree}}
use Rattle.lz_allot.proofs.Trees.{nothing_told, told_by, shown_length, shown_at}

-- a slot that isn't there is not free
none_past : (kinds : List Kind) (s : ℕ) → length kinds ≤ s → is_free_kind (kind_at kinds s) ≡ false
none_past kinds s past = ap is_free_kind (get_or-eq_default kinds kind.Taken {n = s} past)

-- the first leaf has the first bit of its word
first_bit : (levels first : ℕ) → first ≡ start_of levels → 1 ≤ first → first % 64 ≡ 1
first_bit zero first is low = absurd (omega (arith, is, low))
first_bit (suc levels) first is low = omega (arith, is)

-- The slots below `done` are told by their kinds, and nothing else is told.
pub record AreFilled (kinds : List Kind) (old words : List ℕ) (first done : ℕ) : Type 0 where
  pub size : length words ≡ length old
  pub whole : done % 64 ≡ 0
  pub told : (s : ℕ) → s < done → is_told words (first + s) ≡ is_free_kind (kind_at kinds s)
  pub above : (k : ℕ) → 1 ≤ k → k < first → is_told words k ≡ false
  pub empty : (j : ℕ) → (first + done) / 64 ≤ j → word_at words j ≡ 0

module _ (kinds : List Kind) (old : List ℕ) (first : ℕ) (start : IsStart first) where
  module _ (words : List ℕ) (done : ℕ) (filled : AreFilled kinds old words first done) where
    bit : first % 64 ≡ 1
    bit = first_bit start.levels first start.start start.least

    pub leaf_inside : done < length kinds → first + length kinds ≤ 64 * length old → (first + done) / 64 < length words
    leaf_inside low room = omega (arith, filled.size, filled.whole, bit)

    module _ (now : ℕ) (inside : (first + done) / 64 < length words)
        (here : (i : ℕ) → i < 64 → bit_at now i ≡ (if is_free_kind (kind_at kinds (done + i)) then 1 else 0)) where
      other : (j : ℕ) → j ≢ (first + done) / 64 → word_at (set words ((first + done) / 64) now) j ≡ word_at words j
      other j far = get_or-set_other words ((first + done) / 64) j now 0 far

      still : (k : ℕ) → (k - 1) / 64 ≢ (first + done) / 64 → is_told (set words ((first + done) / 64) now) k ≡ is_told words k
      still k far = ap (λ (w : ℕ). bit_at w ((k - 1) % 64) == 1) (other ((k - 1) / 64) far)

      told_now : (s : ℕ) → done ≤ s → s < done + 64 → is_told (set words ((first + done) / 64) now) (first + s) ≡ is_free_kind (kind_at kinds s)
      told_now s from to =
          let word : (first + s - 1) / 64 ≡ (first + done) / 64 = omega (arith, from, to, filled.whole, bit) in
          let place : (first + s - 1) % 64 ≡ s - done = omega (arith, from, to, filled.whole, bit) in
          let slot : done + (s - done) ≡ s = omega (arith, from) in
          ap (λ (w : ℕ). bit_at w ((first + s - 1) % 64) == 1) (ap (word_at (set words ((first + done) / 64) now)) word ∙ get_or-set_same words ((first + done) / 64) now 0 inside)
          ∙ ap (λ (i : ℕ). bit_at now i == 1) place
          ∙ told_by (bit_at now (s - done)) (is_free_kind (kind_at kinds (done + (s - done)))) (here (s - done) (omega (arith, to, from)))
          ∙ ap (λ (t : ℕ). is_free_kind (kind_at kinds t)) slot

      pub filled_more : AreFilled kinds old (set words ((first + done) / 64) now) first (done + 64)
      filled_more = record {
        size = length-set words ((first + done) / 64) now ∙ filled.size;
        whole = omega (arith, filled.whole);
        told = λ s low. ⊎_elim
            (λ (before : s < done). still (first + s) (omega (arith, filled.whole, bit, before)) ∙ filled.told s before)
            (λ (from : done ≤ s). told_now s from low)
            (cases_lt s done);
        above = λ k from to. still k (omega (arith, filled.whole, bit, from, to)) ∙ filled.above k from to;
        empty = λ j from. other j (omega (arith, from)) ∙ filled.empty j (omega (arith, from));
      }

    pub filled_all : length kinds ≤ done → (s : ℕ) → is_told words (first + s) ≡ is_free_kind (kind_at kinds s)
    filled_all all s = grind (arith, nothing_told, bit, none_past, cases_lt)

-- What is told of the nodes from this one on is right, and the leaves are told of as before.
pub record IsToldFrom (old words : List ℕ) (first node : ℕ) : Type 0 where
  pub size : length words ≡ length old
  pub range : (node ≤ first) × (node ≤ length old)
  pub told : (k : ℕ) → node ≤ k → 1 ≤ k → k < first → is_told words k ≡ nat_lt 0 (word_at words k)
  pub leaves : (k : ℕ) → first ≤ k → is_told words k ≡ is_told old k

-- a tree whose leaves are told of by the kinds of the slots, and whose nodes are told of by their words
module _ (kinds : List Kind) (words : List ℕ) (first : ℕ) (start : IsStart first) (few : length kinds ≤ most_slots) (room : length kinds ≤ 63 * first + 1)
    (size : first + length kinds ≤ 64 * length words)
    (told : (k : ℕ) → 1 ≤ k → k < first → is_told words k ≡ nat_lt 0 (word_at words k))
    (leaves : (s : ℕ) → is_told words (first + s) ≡ is_free_kind (kind_at kinds s)) where
  pub filled_tree : IsTree words first (length kinds)
  filled_tree = record {
    start = start;
    range = (few, room);
    size = size;
    told = told;
    rest = λ k past.
        let slot : first + (k - first) ≡ k = omega (arith, past) in
        ap (is_told words) (sym slot) ∙ leaves (k - first) ∙ none_past kinds (k - first) (omega (arith, past));
  }

  pub filled_shown : shown words first (length kinds) ≡ map is_free_kind kinds
  filled_shown =
      let count = shown_length words first (length kinds) in
      ext_get_or false (shown words first (length kinds)) (map is_free_kind kinds) (count ∙ sym (length-map kinds is_free_kind))
      (λ k lt.
      shown_at words first (length kinds) k (omega (arith, lt, count))
      ∙ leaves k
      ∙ sym (get_or-map is_free_kind kinds k kind.Taken false (omega (arith, lt, count))))

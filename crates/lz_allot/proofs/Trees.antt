-- What a tree of free slots tells of its nodes, and a new tree.
use Rattle.std.proofs.Common.{◌≡◌, ◌≢◌, ℕ, suc, ◌+◌, ◌*◌, ◌/◌, ◌%◌, ◌-◌, ◌<◌, ◌≤◌, ◌==◌, Bool, true, false, if◌then◌else◌, List, length, get_or, set, ap, arith}
use Rattle.std.proofs.{Common.{get_or-set_other, get_or-set_same}, lemmas.List.FromFn.{get_or-map-range_with_len, length-map-range_with_len}}
use Rattle.std.{proofs.lemmas.{Nat.Bits.{bit_at-zero}, Bool.{cases_eq}}, specs.{Prelude.{length}, Int.{bit_at}}}
use Rattle.lz_slot.specs.Limits.{most_slots}
use Rattle.lz_allot.specs.Trees.{word_at, is_told, shown, IsStart}

-- a word that is zero tells of nothing
pub nothing_told : (words : List ℕ) (k : ℕ) → word_at words ((k - 1) / 64) ≡ 0 → is_told words k ≡ false
nothing_told words k none = grind (arith, bit_at-zero)

pub told_by : (bit : ℕ) (b : Bool) → bit ≡ (if b then 1 else 0) → (bit == 1) ≡ b
told_by bit true e = ap (λ (x : ℕ). x == 1) e
told_by bit false e = ap (λ (x : ℕ). x == 1) e

module _ (words : List ℕ) (node now : ℕ) (low : 1 ≤ node) (inside : (node - 1) / 64 < length words) where
  pub told_same : (b : Bool) → bit_at now ((node - 1) % 64) ≡ (if b then 1 else 0) → is_told (set words ((node - 1) / 64) now) node ≡ b
  told_same b here = grind (arith, get_or-set_same, told_by)

  pub told_other : ((i : ℕ) → i < 64 → i ≢ (node - 1) % 64 → bit_at now i ≡ bit_at (word_at words ((node - 1) / 64)) i)
      → (k : ℕ) → 1 ≤ k → k ≢ node → is_told (set words ((node - 1) / 64) now) k ≡ is_told words k
  told_other others k first other = grind (arith, get_or-set_same, get_or-set_other, cases_eq)

pub shown_length : (words : List ℕ) (first slots : ℕ) → length (shown words first slots) ≡ slots
shown_length words first slots = length-map-range_with_len (λ s. is_told words (first + s)) 0 slots

pub shown_at : (words : List ℕ) (first slots k : ℕ) → k < slots → get_or (shown words first slots) k false ≡ is_told words (first + k)
shown_at words first slots k low = get_or-map-range_with_len (λ s. is_told words (first + s)) 0 slots k k false low (omega arith)

-- a slot of those that are shown
pub slot_low : (words : List ℕ) (first slots s : ℕ) (free : List Bool) → shown words first slots ≡ free → s < length free → s < slots
slot_low words first slots s free is low = omega (arith, ap length is, shown_length words first slots)

pub next_start : (first slots : ℕ) → IsStart first → slots ≤ most_slots → 63 * first + 1 < slots → IsStart (64 * first + 1)
next_start first slots is most more = record {
  levels = suc is.levels;
  start = ap (λ (f : ℕ). 64 * f + 1) is.start;
  least = omega arith;
  most = omega arith;
}

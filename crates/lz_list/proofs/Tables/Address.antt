-- Each word has a place of its own in the row of all words.
use Rattle.std.proofs.{Common.{◌≡◌, ◌≢◌, ℕ, ◌+◌, ◌-◌, ◌<◌, ◌≤◌, ◌==◌, sym, ap, ◌∙◌, arith, ne_eqb}, lemmas.Bool.{eq-eqb, le-ltb, lt-ltb}}
use Rattle.std.{proofs.lemmas.Bool.Decides.{leb_tells, eqb_tells}, specs.Prelude.{nat_lt, if◌then◌else◌}}
use Rattle.lz_list.specs.declared.{word.Word.{Word, TheVariants.{Head, Link, Key, Pin, Halt}}, layout.Sizes.{Sizes}}
use Rattle.lz_list.specs.Addresses.{index, word_at, words_count, HasPlace}

pub in_range : (z : Sizes) (w : Word) → HasPlace z w → index z w < words_count z
in_range z (Head b) h = let l : b < z.buckets = h in omega (arith, l)
in_range z (Link s) h = let l : s < z.slots = h in omega (arith, l)
in_range z (Key s) h = let l : s < z.slots = h in omega (arith, l)
in_range z (Pin p) h = let l : p ≤ z.passes = h.1 in let m : 1 ≤ p = h.0 in omega (arith, l, m)
in_range z Halt h = omega arith

-- what lies beyond the nodes
abbrev beyond : Sizes → ℕ → Word
beyond z i = if i == z.slots + z.slots then Halt else if nat_lt i (z.slots + z.slots + 1 + z.buckets) then Head (i - (z.slots + z.slots + 1)) else Pin (i - (z.slots + z.slots + z.buckets))

pub decode : (z : Sizes) (w : Word) → HasPlace z w → word_at z (index z w) ≡ w
decode z (Link s) h = grind (arith, lt-ltb, eq-eqb)
decode z (Key s) h = grind (arith, lt-ltb, ne_eqb)
decode z Halt h = grind (arith, le-ltb, eq-eqb)
decode z (Head b) h = grind (arith, le-ltb, ne_eqb, lt-ltb)
decode z (Pin p) h = grind (arith, le-ltb, ne_eqb)

-- so two words lie at two places
pub places_apart : (z : Sizes) (v w : Word) → HasPlace z v → HasPlace z w → v ≢ w → index z v ≢ index z w
places_apart z v w a b away same = away (sym (decode z v a) ∙ ap (word_at z) same ∙ decode z w b)

-- and at each place lies one that comes back to it
pub encode : (z : Sizes) (i : ℕ) → i < words_count z → HasPlace z (word_at z i) × (index z (word_at z i) ≡ i)
encode z i low = grind (arith, leb_tells, eqb_tells)

-- Where each word lies in the row of all words: the nodes, each a link and its key, then the halt word, the heads and the pin words. A
-- node's two words are an even place and the next, so that they lie in one line of the cache.
use Rattle.std.specs.Prelude.{ℕ, ◌+◌, ◌-◌, ◌/◌, ◌%◌, ◌^◌, ◌<◌, ◌≤◌, ◌≡◌, ◌==◌, nat_lt, if◌then◌else◌, List, length, replicate, slice_index}
use Rattle.lz_slot.specs.Limits.{most_slots}
use Rattle.lz_list.specs.{declared.{word.Word.{Word, TheVariants.{Head, Link, Key, Pin, Halt}}, layout.Sizes.{Sizes}}, Words.{Words, get}, Traces.{table}}

-- the place of a word
abbrev pub index : Sizes → Word → ℕ
index z (Link s) = s + s
index z (Key s) = s + s + 1
index z Halt = z.slots + z.slots
index z (Head b) = z.slots + z.slots + 1 + b
index z (Pin p) = z.slots + z.slots + z.buckets + p

-- how many words there are
abbrev pub words_count : Sizes → ℕ
words_count z = 1 + z.buckets + z.slots + z.slots + z.passes

-- the word of a node that lies at a place
abbrev pub node_word : ℕ → Word
node_word i = if i % 2 == 0 then Link (i / 2) else Key (i / 2)

-- the word that lies at a place
abbrev pub word_at : Sizes → ℕ → Word
word_at z i =
    if nat_lt i (z.slots + z.slots) then node_word i
    else if i == z.slots + z.slots then Halt
    else if nat_lt i (z.slots + z.slots + 1 + z.buckets) then Head (i - (z.slots + z.slots + 1))
    else Pin (i - (z.slots + z.slots + z.buckets))

-- the word is one of a table of these sizes
abbrev pub HasPlace : Sizes → Word → Type 0
HasPlace z (Head b) = b < z.buckets
HasPlace z (Link s) = s < z.slots
HasPlace z (Key s) = s < z.slots
HasPlace z (Pin p) = (1 ≤ p) × (p ≤ z.passes)
HasPlace z Halt = Unit {0}

-- how large a table of words is
abbrev pub sizes_in : Words → Sizes
sizes_in w = record { slots = length w.links; buckets = length w.heads; passes = length w.pins }

-- the words, each at its place
abbrev pub row_of : Sizes → Words → List ℕ
row_of z w = table (words_count z) (λ i. get w (word_at z i))

-- the words of a row, beside which the pins and the halt word are kept
abbrev pub words_in : Sizes → List ℕ → List ℕ → ℕ → Words
words_in z row pins halt =
    record {
      heads = table z.buckets (λ b. slice_index row (index z (Head b)));
      links = table z.slots (λ s. slice_index row (index z (Link s)));
      keys = table z.slots (λ s. slice_index row (index z (Key s)));
      pins = pins;
      halt = halt;
    }

-- What holds of a table's row and its pins at any time: the row's own places of pins and of the halt word stay 0.
pub record IsRow (z : Sizes) (row pins : List ℕ) : Type 0 where
  pub buckets : 0 < z.buckets
  pub slots : z.slots ≤ most_slots
  pub long : length row ≡ words_count z
  pub room : words_count z < 2 ^ 64
  pub passes : length pins ≡ z.passes
  pub pins_stay : (p : ℕ) → HasPlace z (Pin p) → slice_index row (index z (Pin p)) ≡ 0
  pub halt_stays : slice_index row (index z Halt) ≡ 0

-- the pins and the halt word are 0, as at first
abbrev pub IsAtRest : Words → Type 0
IsAtRest w = (w.pins ≡ replicate (length w.pins) 0) × (w.halt ≡ 0)

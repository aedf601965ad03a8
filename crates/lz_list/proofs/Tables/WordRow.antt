-- The words of a row: each is what stands at its place, at first and after a store.
use Rattle.lz_list.specs.Words as words
use Rattle.std.proofs.Common.{◌≡◌, ◌≢◌, ℕ, zero, suc, ◌<◌, List, [], ◌∷◌, ◌++◌, length, refl, sym, ap, ◌∙◌, subst, arith, get_or-set_other, get_or-set_same}
use Rattle.std.{proofs.Common.{length-set, ext_get_or}, specs.Prelude.{replicate, slice_index, slice_set}}
use Rattle.lz_list.specs.{declared.{word.Word.{Word, TheVariants.{Head, Link, Key, Pin, Halt}}, layout.Sizes.{Sizes}}, Words.{Words, get}, Traces.{table}}
use Rattle.lz_list.specs.{Lists.{IsTable, IsWord, new_words}, Addresses.{index, sizes_in, word_at, words_count, row_of, words_in, HasPlace, IsAtRest, IsRow}}
use Rattle.lz_list.proofs.Tables.{WordTable.{length-table, table_at, table_set}, Address.{encode, in_range, places_apart}}

-- a table of one number
pub table_of : (n x : ℕ) → replicate n x ≡ table n (λ i. x)
table_of zero x = refl
table_of (suc n) x = push n ∙ ap (λ (l : List ℕ). l ++ x ∷ []) (table_of n x)
  where
    push : (m : ℕ) → x ∷ replicate m x ≡ replicate m x ++ x ∷ []
    push zero = refl
    push (suc m) = ap (λ (l : List ℕ). x ∷ l) (push m)

-- tables of functions that agree so far
same_table : (n : ℕ) (f g : ℕ → ℕ) → ((i : ℕ) → i < n → f i ≡ g i) → table n f ≡ table n g
same_table zero f g same = refl
same_table (suc n) f g same = λ i. same_table n f g (λ j low. same j (omega (arith, low))) i ++ same n (omega arith) i ∷ []

-- a row of zeros
pub zeros : (n i : ℕ) → slice_index (replicate n 0) i ≡ 0
zeros zero i = refl
zeros (suc n) zero = refl
zeros (suc n) (suc i) = zeros n i

module _ {z : Sizes} {row pins : List ℕ} (is : IsRow z row pins) (halt : ℕ) where
  abbrev W : Words
  W = words_in z row pins halt

  many_heads : length W.heads ≡ z.buckets
  many_heads = length-table z.buckets (λ b. slice_index row (index z (Head b)))

  many_links : length W.links ≡ z.slots
  many_links = length-table z.slots (λ s. slice_index row (index z (Link s)))

  many_keys : length W.keys ≡ z.slots
  many_keys = length-table z.slots (λ s. slice_index row (index z (Key s)))

  pub sizes_are : sizes_in W ≡ z
  sizes_are = λ i. record { slots = many_links i; buckets = many_heads i; passes = is.passes i }

  pub row_table : IsTable W
  row_table = record { buckets = omega (arith, is.buckets, many_heads); slots = omega (arith, is.slots, many_links); keys = many_keys ∙ sym many_links }

  pub word_placed : {V : Words} → W ≡ V → (w : Word) → IsWord V w → HasPlace z w
  word_placed same w h = placed w (subst (λ V. IsWord V w) (sym same) h)
    where
      placed : (w : Word) → IsWord W w → HasPlace z w
      placed (Head b) h = omega (arith, h, many_heads)
      placed (Link s) h = omega (arith, h, many_links)
      placed (Key s) h = omega (arith, h, many_keys)
      placed (Pin p) h = (h.0, omega (arith, h.1, is.passes))
      placed Halt h = tt

  -- What stands at its place is the word, where it is so of pins and of the halt word.
  pub got : (w : Word) → HasPlace z w → ((p : ℕ) → w ≡ Pin p → HasPlace z (Pin p) → slice_index row (index z (Pin p)) ≡ get W (Pin p)) → (w ≡ Halt → slice_index row (index z Halt) ≡ halt) →
      slice_index row (index z w) ≡ get W w
  got (Head b) h _ _ = sym (table_at z.buckets (λ b. slice_index row (index z (Head b))) b 0 h)
  got (Link s) h _ _ = sym (table_at z.slots (λ s. slice_index row (index z (Link s))) s 0 h)
  got (Key s) h _ _ = sym (table_at z.slots (λ s. slice_index row (index z (Key s))) s 0 h)
  got (Pin p) h of_pin _ = of_pin p refl h
  got Halt h _ of_halt = of_halt refl

  -- all words, each at its place
  pub laid : IsAtRest W → row ≡ row_of z W
  laid rest = ext_get_or 0 row (row_of z W) (is.long ∙ sym (length-table (words_count z) (λ i. get W (word_at z i)))) same
    where
      pin_rests : (p : ℕ) → get W (Pin p) ≡ 0
      pin_rests zero = refl
      pin_rests (suc p) = ap (λ l. slice_index l p) rest.0 ∙ zeros (length pins) p

      same : (i : ℕ) → i < length row → slice_index row i ≡ slice_index (row_of z W) i
      same i low = grind (arith, encode, got, pin_rests, table_at)

  pub in_row : (w : Word) → HasPlace z w → index z w < length row
  in_row w h = omega (arith, in_range z w h, is.long)

  -- a store in the row
  module _ (x : ℕ) where
    abbrev after : Word → List ℕ
    after w = slice_set row (index z w) x

    -- words that lie elsewhere stay
    stays : (w : Word) → HasPlace z w → (n : ℕ) (v : ℕ → Word) → ((i : ℕ) → i < n → HasPlace z (v i)) → ((i : ℕ) → v i ≢ w) →
        table n (λ i. slice_index (after w) (index z (v i))) ≡ table n (λ i. slice_index row (index z (v i)))
    stays w h n v placed other =
        same_table n (λ i. slice_index (after w) (index z (v i))) (λ i. slice_index row (index z (v i))) (λ i low. get_or-set_other row (index z w) (index z (v i)) x 0 (places_apart z (v i) w (placed i low) h (other i)))

    -- and of the others this one becomes x
    stands : (n : ℕ) (v : ℕ → Word) (i : ℕ) → i < n → HasPlace z (v i) → ((j : ℕ) → j ≢ i → index z (v j) ≢ index z (v i)) →
        table n (λ j. slice_index (after (v i)) (index z (v j))) ≡ slice_set (table n (λ j. slice_index row (index z (v j)))) i x
    stands n v i low h apart = grind (arith, table_set, get_or-set_same, in_row, get_or-set_other)

    pub stored : (w : Word) → HasPlace z w → ((p : ℕ) → w ≢ Pin p) → w ≢ Halt → words_in z (after w) pins halt ≡ words.set W w x
    stored (Head b) h _ _ = λ i. record {
      heads = stands z.buckets Head b h h (λ c other e. other (omega (arith, e))) i;
      links = stays (Head b) h z.slots Link (λ s low. low) (λ s e. absurd cc) i;
      keys = stays (Head b) h z.slots Key (λ s low. low) (λ s e. absurd cc) i;
      pins = pins;
      halt = halt;
    }
    stored (Link s) h _ _ = λ i. record {
      heads = stays (Link s) h z.buckets Head (λ b low. low) (λ b e. absurd cc) i;
      links = stands z.slots Link s h h (λ t other e. other (omega (arith, e))) i;
      keys = stays (Link s) h z.slots Key (λ t low. low) (λ t e. absurd cc) i;
      pins = pins;
      halt = halt;
    }
    stored (Key s) h _ _ = λ i. record {
      heads = stays (Key s) h z.buckets Head (λ b low. low) (λ b e. absurd cc) i;
      links = stays (Key s) h z.slots Link (λ t low. low) (λ t e. absurd cc) i;
      keys = stands z.slots Key s h h (λ t other e. other (omega (arith, e))) i;
      pins = pins;
      halt = halt;
    }
    stored (Pin p) h no_pin _ = absurd (no_pin p refl)
    stored Halt h _ no_halt = absurd (no_halt refl)

    pub still_row : (w : Word) → HasPlace z w → ((p : ℕ) → w ≢ Pin p) → w ≢ Halt → IsRow z (after w) pins
    still_row w h no_pin no_halt = grind (arith, length-set, get_or-set_other, places_apart)

-- a new table
pub row_of_zeros : (slots buckets passes n : ℕ) {row pins : List ℕ} → row ≡ replicate n 0 → pins ≡ replicate passes 0 →
    words_in (record { slots = slots; buckets = buckets; passes = passes }) row pins 0 ≡ new_words slots buckets passes
row_of_zeros slots buckets passes n {row} {pins} row_is pins_are = grind (arith, same_table, zeros, table_of)

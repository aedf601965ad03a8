-- Worked rows: what a crash leaves that a mask or the writes' numbers pick.
use Rattle.std.proofs.Common.{◌≡◌, ℕ, true, List, [], ◌∷◌, ◌++◌, replicate, slice_index, refl, ap, arith}
use Rattle.lz_disk.specs.{Images.{Medium}, Picks.{left_by}, declared.memory.Pick.TheVariants.{Old, New, Mask, Nth}}

-- three durable bytes, over which five are written
abbrev grown : Medium
grown = record { bytewise = true; sure = 1 ∷ 2 ∷ 3 ∷ []; seen = 5 ∷ 6 ∷ 7 ∷ 8 ∷ 9 ∷ []; loose = (0, 5 ∷ 6 ∷ 7 ∷ 8 ∷ 9 ∷ []) ∷ [] }

-- the lowest bit is that of the first byte
lowest : left_by (Mask 1) grown ≡ 5 ∷ 2 ∷ 3 ∷ []
lowest = refl

first_and_third : left_by (Mask 5) grown ≡ 5 ∷ 2 ∷ 7 ∷ []
first_and_third = refl

-- after the durable end it goes on up to the first byte that the mask doesn't take
longer : left_by (Mask 0x000a) grown ≡ 1 ∷ 6 ∷ 3 ∷ 8 ∷ []
longer = refl

not_past_a_gap : left_by (Mask 0x0010) grown ≡ 1 ∷ 2 ∷ 3 ∷ []
not_past_a_gap = refl

none_and_all : (left_by (Mask 0) grown ≡ left_by Old grown) × (left_by (Mask 0xffff) grown ≡ left_by New grown)
none_and_all = (refl, refl)

-- the bits come again after sixteen bytes, and not after eight
abbrev wide : Medium
wide = record { bytewise = true; sure = replicate 18 0; seen = replicate 18 4; loose = (0, replicate 18 4) ∷ [] }

again : left_by (Mask 0x0102) wide ≡ 0 ∷ 4 ∷ replicate 6 0 ++ 4 ∷ replicate 8 0 ++ 4 ∷ []
again = refl

not_by_the_eighth : left_by (Mask 0x0002) wide ≡ 0 ∷ 4 ∷ replicate 7 0 ++ 4 ∷ replicate 7 0 ++ 4 ∷ [] → ⊥
not_by_the_eighth h = let ninth : ◌≡◌ {A = ℕ} 0 4 = ap (λ (t : List ℕ). slice_index t 9) h in absurd (omega (arith, ninth))

-- a bit that is set leaves the byte as read, and no other does
not_turned_round : left_by (Mask 0x0005) grown ≡ 1 ∷ 6 ∷ 3 ∷ [] → ⊥
not_turned_round h = let first : ◌≡◌ {A = ℕ} 5 1 = ap (λ (t : List ℕ). slice_index t 0) h in absurd (omega (arith, first))

not_from_the_highest : left_by (Mask 0x8000) grown ≡ 5 ∷ 2 ∷ 3 ∷ [] → ⊥
not_from_the_highest h = let first : ◌≡◌ {A = ℕ} 1 5 = ap (λ (t : List ℕ). slice_index t 0) h in absurd (omega (arith, first))

-- two bytes at rest and one that was written past them: the first is written three times, the last once, the other never
abbrev rewritten : Medium
rewritten = record { bytewise = true; sure = 1 ∷ 2 ∷ []; seen = 9 ∷ 2 ∷ 4 ∷ []; loose = (0, 9 ∷ []) ∷ (0, 7 ∷ []) ∷ (2, 4 ∷ []) ∷ (0, 5 ∷ []) ∷ [] }

-- they are counted from 0, from the first one on
first_write : left_by (Nth 0) rewritten ≡ 5 ∷ 2 ∷ 4 ∷ []
first_write = refl

second_write : left_by (Nth 1) rewritten ≡ 7 ∷ 2 ∷ 4 ∷ []
second_write = refl

-- the last one stands for those that weren't made
last_write : (left_by (Nth 2) rewritten ≡ left_by New rewritten) × (left_by (Nth 65535) rewritten ≡ left_by New rewritten)
last_write = (refl, refl)

not_the_last : left_by (Nth 0) rewritten ≡ 9 ∷ 2 ∷ 4 ∷ [] → ⊥
not_the_last h = let first : ◌≡◌ {A = ℕ} 5 9 = ap (λ (t : List ℕ). slice_index t 0) h in absurd (omega (arith, first))

not_from_one : left_by (Nth 1) rewritten ≡ 5 ∷ 2 ∷ 4 ∷ [] → ⊥
not_from_one h = let first : ◌≡◌ {A = ℕ} 7 5 = ap (λ (t : List ℕ). slice_index t 0) h in absurd (omega (arith, first))

not_the_durable_one : left_by (Nth 3) rewritten ≡ 1 ∷ 2 ∷ 4 ∷ [] → ⊥
not_the_durable_one h = let first : ◌≡◌ {A = ℕ} 9 1 = ap (λ (t : List ℕ). slice_index t 0) h in absurd (omega (arith, first))

-- also those that failed count, though they aren't read
abbrev failed : Medium
failed = record { bytewise = true; sure = 1 ∷ 2 ∷ []; seen = 1 ∷ 2 ∷ []; loose = (1, 8 ∷ []) ∷ [] }

failed_write : left_by (Nth 0) failed ≡ 1 ∷ 8 ∷ []
failed_write = refl

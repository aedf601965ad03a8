-- Worked rows: what a write that failed may leave.
use Rattle.std.proofs.{Common.{◌≡◌, ℕ, zero, suc, ◌≤◌, true, false, List, [], ◌∷◌, slice_index, refl, ap, arith}, lemmas.Bool.{false≢true}}
use Rattle.lz_disk.specs.Images.{Medium, AreBytes, WriteFailed, at_rest}

-- a text of two bytes at rest, and a medium that is read so after three bytes were to be written from offset 1 on
abbrev two : Medium
two = at_rest false (1 ∷ 2 ∷ [])

abbrev three : List ℕ
three = 9 ∷ 7 ∷ 5 ∷ []

abbrev left : List ℕ → Medium
left seen = record { bytewise = false; sure = 1 ∷ 2 ∷ []; seen = seen; loose = (1, three) ∷ [] }

three_are_bytes : AreBytes (1 ∷ 9 ∷ 7 ∷ [])
three_are_bytes zero = omega arith
three_are_bytes (suc zero) = omega arith
three_are_bytes (suc (suc zero)) = omega arith
three_are_bytes (suc (suc (suc i))) = omega arith

four_are_bytes : AreBytes (1 ∷ 255 ∷ 0 ∷ 5 ∷ [])
four_are_bytes zero = omega arith
four_are_bytes (suc zero) = omega arith
four_are_bytes (suc (suc zero)) = omega arith
four_are_bytes (suc (suc (suc zero))) = omega arith
four_are_bytes (suc (suc (suc (suc i)))) = omega arith

two_are_bytes : AreBytes (1 ∷ 2 ∷ [])
two_are_bytes zero = omega arith
two_are_bytes (suc zero) = omega arith
two_are_bytes (suc (suc i)) = omega arith

-- the text is one byte longer than it was, or as long as the whole write makes it, with any bytes in its range
grown : WriteFailed two 1 three (left (1 ∷ 9 ∷ 7 ∷ []))
grown = record { bytewise = refl; sure = refl; loose = refl; bytes = three_are_bytes; before = refl; after = refl; no_shorter = omega arith; no_longer = omega arith; mixed = λ on. absurd (false≢true on) }

grown_whole : WriteFailed two 1 three (left (1 ∷ 255 ∷ 0 ∷ 5 ∷ []))
grown_whole = record { bytewise = refl; sure = refl; loose = refl; bytes = four_are_bytes; before = refl; after = refl; no_shorter = omega arith; no_longer = omega arith; mixed = λ on. absurd (false≢true on) }

-- or nothing of it is read
unchanged : WriteFailed two 1 three (left (1 ∷ 2 ∷ []))
unchanged = record { bytewise = refl; sure = refl; loose = refl; bytes = two_are_bytes; before = refl; after = refl; no_shorter = omega arith; no_longer = omega arith; mixed = λ on. absurd (false≢true on) }

-- it isn't longer than the whole write makes it
not_longer : WriteFailed two 1 three (left (1 ∷ 9 ∷ 7 ∷ 8 ∷ 6 ∷ [])) → ⊥
not_longer h = let most : 5 ≤ 4 = h.no_longer in absurd (omega arith)

-- nor shorter than it was
not_shorter : WriteFailed two 1 three (left (1 ∷ [])) → ⊥
not_shorter h = let least : 2 ≤ 1 = h.no_shorter in absurd (omega arith)

-- the byte before the range stands
not_before : WriteFailed two 1 three (left (4 ∷ 9 ∷ 7 ∷ [])) → ⊥
not_before h = let first : ◌≡◌ {A = ℕ} 4 1 = ap (λ (t : List ℕ). slice_index t 0) h.before in absurd (omega (arith, first))

-- and the byte after it
not_after : WriteFailed two 0 (9 ∷ []) (record { bytewise = false; sure = 1 ∷ 2 ∷ []; seen = 9 ∷ 3 ∷ []; loose = (0, 9 ∷ []) ∷ [] }) → ⊥
not_after h = let second : ◌≡◌ {A = ℕ} 3 2 = ap (λ (t : List ℕ). slice_index t 0) h.after in absurd (omega (arith, second))

-- its range is loose, and what was durable stays so
not_kept : WriteFailed two 1 three (at_rest false (1 ∷ 2 ∷ [])) → ⊥
not_kept h = let loose = h.loose in absurd cc

not_sure : WriteFailed two 1 three (record { bytewise = false; sure = 1 ∷ 9 ∷ 7 ∷ []; seen = 1 ∷ 9 ∷ 7 ∷ []; loose = (1, three) ∷ [] }) → ⊥
not_sure h = let second : ◌≡◌ {A = ℕ} 9 2 = ap (λ (t : List ℕ). slice_index t 1) h.sure in absurd (omega (arith, second))

-- on a bytewise medium no byte is read that was neither there nor to be written
not_mixed : WriteFailed (at_rest true (1 ∷ 2 ∷ [])) 1 (9 ∷ []) (record { bytewise = true; sure = 1 ∷ 2 ∷ []; seen = 1 ∷ 7 ∷ []; loose = (1, 9 ∷ []) ∷ [] }) → ⊥
not_mixed h = grind arith

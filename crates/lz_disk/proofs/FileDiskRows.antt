-- Worked rows: a disk over a file, and the writes that wait.
use Rattle.std.proofs.{Common.{◌≡◌, ◌≤◌, inr, ℕ, zero, suc, false, List, [], ◌∷◌, length, slice_index, refl, sym, ap, arith}, lemmas.Bool.{false≢true}}
use Rattle.lz_disk.specs.{Images.{Medium, AreBytes, IsImage, at_rest}, Gathers.{Waiting, Joined}, FileDisks.{IsOver, medium_over}}

-- a file of two bytes at rest, over which a write of one byte waits
abbrev two : Medium
two = at_rest false (1 ∷ 2 ∷ [])

abbrev nine : Waiting
nine = record { at = 1; bytes = 9 ∷ [] }

abbrev disk : Medium
disk = medium_over two nine ((1, 9 ∷ []) ∷ [])

-- it is read and isn't durable
reads : disk.seen ≡ 1 ∷ 9 ∷ []
reads = refl

is_not_durable : disk.sure ≡ 1 ∷ 2 ∷ []
is_not_durable = refl

-- a crash may lose it
bytes : AreBytes (1 ∷ 2 ∷ [])
bytes zero = omega arith
bytes (suc zero) = omega arith
bytes (suc (suc i)) = omega arith

lost : IsImage disk (1 ∷ 2 ∷ [])
lost = record { bytes = bytes; no_shorter = omega arith; no_longer = omega arith; sure = λ i lt shut. refl; each = λ on. absurd (false≢true on) }

-- but not what was durable beside it
not_beside : IsImage disk (4 ∷ 2 ∷ []) → ⊥
not_beside h = let first : 4 ≡ 1 = h.sure 0 (omega arith) refl in absurd (omega (arith, first))

-- what was written since the last sync is what is loose in the file and what waits
over : IsOver two nine ((1, 9 ∷ []) ∷ [])
over = (omega arith, λ i b. refl)

not_less : IsOver two nine [] → ⊥
not_less h = false≢true (h.1 1 9)

not_more : IsOver two nine ((0, 7 ∷ []) ∷ (1, 9 ∷ []) ∷ []) → ⊥
not_more h = false≢true (sym (h.1 0 7))

not_past_the_end : IsOver two (record { at = 3; bytes = 9 ∷ [] }) ((3, 9 ∷ []) ∷ []) → ⊥
not_past_the_end h = let low : 3 ≤ 2 = h.0 in absurd (omega (arith, low))

-- a write joins where those that wait end, and its bytes come after theirs
joins : Joined 2 (7 ∷ []) nine (record { at = 1; bytes = 9 ∷ 7 ∷ [] })
joins = record { first = inr refl; goes_on = refl; all = refl }

not_after_a_gap : Joined 3 (7 ∷ []) nine (record { at = 1; bytes = 9 ∷ 7 ∷ [] }) → ⊥
not_after_a_gap h = let next : ◌≡◌ {A = ℕ} 3 2 = h.goes_on in absurd (omega (arith, next))

not_elsewhere : Joined 2 (7 ∷ []) nine (record { at = 0; bytes = 9 ∷ 7 ∷ [] }) → ⊥
not_elsewhere h = let next : ◌≡◌ {A = ℕ} 2 1 = h.goes_on in absurd (omega (arith, next))

not_turned : Joined 2 (7 ∷ []) nine (record { at = 1; bytes = 7 ∷ 9 ∷ [] }) → ⊥
not_turned h = let first : ◌≡◌ {A = ℕ} 7 9 = ap (λ (l : List ℕ). slice_index l 0) h.all in absurd (omega (arith, first))

not_dropped : Joined 2 (7 ∷ []) nine nine → ⊥
not_dropped h = let size : ◌≡◌ {A = ℕ} 1 2 = ap (λ (l : List ℕ). length l) h.all in absurd (omega (arith, size))

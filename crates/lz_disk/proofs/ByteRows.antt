-- Worked rows: the images of a bytewise medium, byte by byte.
use Rattle.std.proofs.{Common.{◌≡◌, ◌⊎◌, inl, inr, ℕ, zero, suc, ◌+◌, ◌<◌, true, false, List, [], ◌∷◌, get_or, refl, arith}, lemmas.Bool.{true≢false}}
use Rattle.lz_disk.specs.Images.{Medium, AreBytes, IsImage, WasWritten, is_loose, at_rest, written}

-- two bytes at rest, of which both are written, and the first again
abbrev twice : Medium
twice = written (written (at_rest true (0 ∷ 0 ∷ [])) 0 (5 ∷ 6 ∷ [])) 0 (9 ∷ [])

-- a crash may leave the older byte of one place, and the durable one of the other
abbrev mixed : List ℕ
mixed = 5 ∷ 0 ∷ []

mixed_bytes : AreBytes mixed
mixed_bytes zero = omega arith
mixed_bytes (suc zero) = omega arith
mixed_bytes (suc (suc i)) = omega arith

mixed_sure : (i : ℕ) → i < 2 → is_loose twice.loose i ≡ false → get_or mixed i 0 ≡ get_or twice.sure i 0
mixed_sure zero lt shut = absurd (true≢false shut)
mixed_sure (suc zero) lt shut = absurd (true≢false shut)
mixed_sure (suc (suc i)) lt shut = absurd (omega arith)

mixed_each : (i : ℕ) → i < 2 → (get_or mixed i 0 ≡ get_or twice.sure i 0) ⊎ WasWritten twice.loose i (get_or mixed i 0)
mixed_each zero lt = inr (inr (inl (omega arith, omega arith, refl)))
mixed_each (suc zero) lt = inl refl
mixed_each (suc (suc i)) lt = absurd (omega arith)

mixed_left : IsImage twice mixed
mixed_left = record { bytes = mixed_bytes; no_shorter = omega arith; no_longer = omega arith; sure = mixed_sure; each = λ on. mixed_each }

-- it leaves no byte that nobody wrote
not_seven : (◌≡◌ {A = ℕ} 7 0) ⊎ WasWritten twice.loose 0 7 → ⊥
not_seven (inl e) = absurd (omega (arith, e))
not_seven (inr (inl w)) = let e : ◌≡◌ {A = ℕ} 9 7 = w.2 in absurd (omega (arith, e))
not_seven (inr (inr (inl w))) = let e : ◌≡◌ {A = ℕ} 5 7 = w.2 in absurd (omega (arith, e))
not_seven (inr (inr (inr none))) = absurd none

not_any : IsImage twice (7 ∷ 0 ∷ []) → ⊥
not_any h = not_seven (h.each refl 0 (omega arith))

-- nor one that was written beside its place
not_nine : (◌≡◌ {A = ℕ} 9 0) ⊎ WasWritten twice.loose 1 9 → ⊥
not_nine (inl e) = absurd (omega (arith, e))
not_nine (inr (inl w)) = let lt : 1 < 0 + 1 = w.1 in absurd (omega (arith, lt))
not_nine (inr (inr (inl w))) = let e : ◌≡◌ {A = ℕ} 6 9 = w.2 in absurd (omega (arith, e))
not_nine (inr (inr (inr none))) = absurd none

not_beside : IsImage twice (0 ∷ 9 ∷ []) → ⊥
not_beside h = not_nine (h.each refl 1 (omega arith))

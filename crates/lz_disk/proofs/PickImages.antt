-- The texts that a mask and that the writes' numbers pick: how long they are, and which bytes they have.
use Rattle.std.proofs.Common.{◌≡◌, ◌⊎◌, inl, ℕ, zero, suc, ◌+◌, ◌≤◌, ◌<◌, false, List, [], ◌∷◌, length, get_or, refl, ◌∙◌, ap, arith}
use Rattle.std.proofs.lemmas.Bool.Decides.{nat_tests}
use Rattle.lz_disk.specs.{Images.{WasWritten, is_loose}, Picks.{nth_written, with_mask, with_nth}}

module _ (mask : ℕ) where
  pub mask_not_shorter : (i : ℕ) (sure seen : List ℕ) → length sure ≤ length (with_mask mask i sure seen)
  mask_not_shorter i (a ∷ sure) (b ∷ seen) = omega (arith, mask_not_shorter (i + 1) sure seen)
  mask_not_shorter i _ _ = omega arith

  pub mask_not_longer : (i : ℕ) (sure seen : List ℕ) → length sure ≤ length seen → length (with_mask mask i sure seen) ≤ length seen
  mask_not_longer i sure [] le = omega arith
  mask_not_longer i [] (b ∷ seen) le = grind (arith, mask_not_longer (i + 1) [] seen (omega arith)) steps 100000
  mask_not_longer i (a ∷ sure) (b ∷ seen) le = omega (arith, mask_not_longer (i + 1) sure seen (omega arith))

  -- up to the durable end each byte is the durable one or the one as read
  pub mask_either : (i : ℕ) (sure seen : List ℕ) (k : ℕ) → k < length sure → (get_or (with_mask mask i sure seen) k 0 ≡ get_or sure k 0) ⊎ (get_or (with_mask mask i sure seen) k 0 ≡ get_or seen k 0)
  mask_either i sure [] k lt = inl refl
  mask_either i [] (b ∷ seen) k lt = absurd (omega arith)
  mask_either i (a ∷ sure) (b ∷ seen) zero lt = grind (arith, get_or) steps 100000
  mask_either i (a ∷ sure) (b ∷ seen) (suc k) lt = mask_either (i + 1) sure seen k (omega arith)

pub length-with_nth : (writes : List (ℕ × List ℕ)) (n i : ℕ) (t : List ℕ) → length (with_nth writes n i t) ≡ length t
length-with_nth writes n i [] = refl
length-with_nth writes n i (b ∷ t) = ap suc (length-with_nth writes n (i + 1) t)

nth_from : (writes : List (ℕ × List ℕ)) (n i : ℕ) (t : List ℕ) (k : ℕ) → k < length t → get_or (with_nth writes n i t) k 0 ≡ nth_written writes n (i + k) (get_or t k 0)
nth_from writes n i [] k lt = absurd (omega arith)
nth_from writes n i (b ∷ t) zero lt = let here : i ≡ i + 0 = omega arith in ap (λ (j : ℕ). nth_written writes n j b) here
nth_from writes n i (b ∷ t) (suc k) lt =
    let on : (i + 1) + k ≡ i + suc k = omega arith in
    nth_from writes n (i + 1) t k (omega arith) ∙ ap (λ (j : ℕ). nth_written writes n j (get_or t k 0)) on

pub nth_at : (writes : List (ℕ × List ℕ)) (n : ℕ) (t : List ℕ) (k : ℕ) → k < length t → get_or (with_nth writes n 0 t) k 0 ≡ nth_written writes n k (get_or t k 0)
nth_at writes n t k lt = let here : 0 + k ≡ k = omega arith in nth_from writes n 0 t k lt ∙ ap (λ (j : ℕ). nth_written writes n j (get_or t k 0)) here

-- each byte of it was there or was written there
pub nth_either : (writes : List (ℕ × List ℕ)) (n i b : ℕ) → (nth_written writes n i b ≡ b) ⊎ WasWritten writes i (nth_written writes n i b)
nth_either [] n i b = inl refl
nth_either (w ∷ writes) n i b = grind (arith, nat_tests, nth_either writes n i b) steps 100000

-- where nothing was written it stands
pub nth_sure : (writes : List (ℕ × List ℕ)) (n i b : ℕ) → is_loose writes i ≡ false → nth_written writes n i b ≡ b
nth_sure [] n i b shut = refl
nth_sure (w ∷ writes) n i b shut = grind (arith, nat_tests, nth_sure writes n i b) steps 100000

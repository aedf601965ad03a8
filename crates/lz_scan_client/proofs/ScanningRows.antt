-- Worked scans, and what is none.
use Rattle.std.proofs.Common.{◌≢◌, ℕ, ◌<◌, inl, inr, List, [], ◌∷◌, ◌++◌, length, Option, Some, None, refl, arith, length-append}
use Rattle.lz_resp.specs.Pages.{request_text, told_text}
use Rattle.lz_scan_client.specs.Scanning.{LeadsOn, Scanned, begins, one_page}

-- two pages, which tell 17 twice, and a key of room 1
two_pages : Scanned None (([] ++ request_text 0) ++ request_text 4096) (([] ++ told_text 4096 (17 ∷ 1000000000000000008 ∷ [])) ++ told_text 0 (17 ∷ [])) (17 ∷ 1000000000000000008 ∷ 17 ∷ [])
two_pages = one_page 4096 0 (17 ∷ []) _ _ _ (inl refl) (one_page 0 4096 (17 ∷ 1000000000000000008 ∷ []) [] [] [] (inr (omega arith)) begins)

-- What must not hold.

-- a page leads back, or nowhere
stands : LeadsOn 4096 4096 → ⊥
stands (inl is) = absurd (omega (arith, is))
stands (inr low) = absurd (omega (arith, low))

back : LeadsOn 4096 256 → ⊥
back (inl is) = absurd (omega (arith, is))
back (inr low) = absurd (omega (arith, low))

-- it is at its end, or goes on from a later cursor, before anything was asked
unasked : (q : Option ℕ) (sent replies told : List ℕ) → Scanned q sent replies told → q ≢ Some 0 → 0 < length sent
unasked _ _ _ _ begins other = absurd (other refl)
unasked _ _ _ _ (one_page cursor next keys sent replies told on so) other = grind (arith, length-append)

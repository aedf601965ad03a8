-- Worked rows: what is fit for a service of texts under a secret, and what isn't.
use Rattle.std.proofs.Common.{◌≡◌, ◌⊎◌, ⊎_elim, ℕ, true, false, List, refl, sym, ◌∙◌}
use mathlib.Core.Bool.{true≢false}
use Rattle.lz_slot.specs.{Sets.{Keys}, Bytes.{Holds}}
use Rattle.lz_disk.specs.{Images.{IsImage}, Devices.{Device}}
use Rattle.lazyset_file_commands.specs.Marks.{secret_mark, texts_mark}
use Rattle.lazyset_set_commands.specs.{Marks.{FitsFor, marked, with_mark}, declared.marks.Wanted.TheVariants.{OlderTexts, Secret, Texts}}

module _ {D : Type 0} (device : D → Device) (N : ℕ) (S : Keys) (old new : D) where
  -- a file of another secret isn't, whatever else it has
  another_secret : FitsFor device (Secret (secret_mark 5)) N S old new → S (secret_mark 6) ≡ true → ⊥
  another_secret fits has = true≢false (fits.0 (secret_mark 6) has)

  -- nor is one of texts under none that has a key
  under_none : FitsFor device (Secret (secret_mark 5)) N S old new → S (secret_mark 5) ≡ false → S texts_mark ≡ true → S 17 ≡ true → ⊥
  under_none fits none mark has = ⊎_elim (λ both. true≢false (sym both.1 ∙ none)) (λ bare. true≢false (bare 17 has)) fits.1

  -- without the secret a file with its mark is fit for no texts
  secret_is_missing : FitsFor device Texts N S old new ⊎ FitsFor device OlderTexts N S old new → S (secret_mark 5) ≡ true → ⊥
  secret_is_missing fits has = ⊎_elim (λ texts. true≢false (texts.0 (secret_mark 5) has)) (λ older. true≢false (older.0 (secret_mark 5) has)) fits

  -- what a crash leaves has both marks
  both_stay : (t : List ℕ) → FitsFor device (Secret (secret_mark 5)) N S old new → IsImage (device new).medium t → (T : Keys) × Holds t N T × (T texts_mark ≡ true) × (T (secret_mark 5) ≡ true)
  both_stay t fits image = (with_mark (secret_mark 5) (marked S), fits.2 t image, refl, refl)

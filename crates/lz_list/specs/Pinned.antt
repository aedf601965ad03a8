-- What a walker may rely on since it was pinned.
use Rattle.std.specs.Prelude.{◌≡◌, ◌⊎◌, ℕ, suc, true, [], ◌∷◌}
use Rattle.lz_list.specs.declared.publishing.Publishing.{Publishing, TheVariants.{KeyPrepared as key_prepared, LinkPrepared as link_prepared}}
use Rattle.lz_list.specs.Traces.{Trace, Begins, on, chain}

-- A holds after some trace that begins with P0 and begins P
abbrev pub Once : Trace → Trace → (Trace → Type 0) → Type 0
Once P0 [] A = (P0 ≡ []) × A []
Once P0 (e ∷ P) A = (Begins P0 (e ∷ P) × A (e ∷ P)) ⊎ Once P0 P A

-- the place stood on the chain of bucket b
abbrev pub Stood : ℕ → ℕ → Trace → Trace → ℕ → Type 0
Stood buckets b P0 P x = Once P0 P (λ R. on 0 (chain buckets b R) x ≡ true)

-- a slot that stood on a chain since P0 isn't prepared again
abbrev pub IsKept : ℕ → Trace → Publishing → Trace → Type 0
IsKept buckets P0 (key_prepared s v) P = (b : ℕ) → Stood buckets b P0 P (suc s) → ⊥
IsKept buckets P0 (link_prepared s v) P = (b : ℕ) → Stood buckets b P0 P (suc s) → ⊥
IsKept buckets P0 _ P = Unit {0}

abbrev pub IsQuiet : ℕ → Trace → Trace → Type 0
IsQuiet buckets P0 [] = Unit {0}
IsQuiet buckets P0 (e ∷ P) = IsKept buckets P0 e P × IsQuiet buckets P0 P

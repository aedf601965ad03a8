-- Worked rows: which slots are counted as open.
use Rattle.std.proofs.Common.{◌≡◌, ℕ, [], ◌∷◌, refl, arith}
use Rattle.lz_vault.specs.{Opens.{open_count}, Stages.{Cell}, declared.vault.Stage.{Stage, TheVariants.{Closed, Keyed, Opening, Open, Closing}}}

abbrev at : Stage → Cell
at stage = record { stage = stage; key = 7 }

none_of_none : open_count [] ≡ 0
none_of_none = refl

-- each open slot counts
two_open : open_count (at Open ∷ at Closed ∷ at Open ∷ at Keyed ∷ []) ≡ 2
two_open = refl

-- one that is being opened doesn't yet, nor does one that is being closed any more
not_while_it_opens : open_count (at Opening ∷ at Open ∷ []) ≡ 2 → ⊥
not_while_it_opens is = let e : ◌≡◌ {A = ℕ} 1 2 = is in absurd (omega (arith, e))

not_while_it_closes : open_count (at Closing ∷ at Open ∷ []) ≡ 2 → ⊥
not_while_it_closes is = let e : ◌≡◌ {A = ℕ} 1 2 = is in absurd (omega (arith, e))

not_one_of_two : open_count (at Open ∷ at Open ∷ []) ≡ 1 → ⊥
not_one_of_two is = let e : ◌≡◌ {A = ℕ} 2 1 = is in absurd (omega (arith, e))

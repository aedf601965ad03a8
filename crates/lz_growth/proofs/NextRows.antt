-- Worked rows: to how many slots a file is raised.
use Rattle.std.proofs.{Common.{◌≡◌, ⊎_elim, ℕ, zero, suc, ◌+◌, ◌/◌, ◌%◌, ◌^◌, ◌≤◌, ◌<◌, refl, arith}, lemmas.Bool.{cases_lt}}
use Rattle.lz_growth.{specs.{Growths.{IsRaise}, Nexts.{IsNext}}, proofs.NextCounts.{raise_takes, worth_up}}

-- where a byte has no room, a raise takes another one
above_full : (from x byte : ℕ) → (raise : IsRaise from x) → ((b : ℕ) → b < byte → from / 256 ^ b % 256 ≡ 255) → from + 256 ^ byte ≤ x
above_full from x byte raise full =
    let takes = raise_takes from x raise in
    ⊎_elim
    (λ low. let none = full raise.apart.0 low in absurd (omega (arith, none, takes.0)))
    (λ le. let up = worth_up byte raise.apart.0 le in omega (arith, up, takes.1))
    (cases_lt raise.apart.0 byte)

full_255 : (b : ℕ) → b < 1 → 255 / 256 ^ b % 256 ≡ 255
full_255 zero low = refl
full_255 (suc b) low = absurd (omega (arith, low))

full_16777215 : (b : ℕ) → b < 3 → 16777215 / 256 ^ b % 256 ≡ 255
full_16777215 zero low = refl
full_16777215 (suc zero) low = refl
full_16777215 (suc (suc zero)) low = refl
full_16777215 (suc (suc (suc b))) low = absurd (omega (arith, low))

doubles : IsRaise 1 3
doubles = record { some = omega arith; more = omega arith; few = omega arith; apart = (0, omega arith, (refl, refl)) }

by_half : IsRaise 100 150
by_half = record { some = omega arith; more = omega arith; few = omega arith; apart = (0, omega arith, (refl, refl)) }

-- twice as many and one, or as near to it as the most is
twice : IsNext 1 100 3
twice = record { raise = doubles; within = omega arith; no_more = omega arith; greatest = λ x raise le double. omega (arith, double) }

to_the_most : IsNext 100 150 150
to_the_most = record { raise = by_half; within = omega arith; no_more = omega arith; greatest = λ x raise le double. le }

past_255 : IsNext 255 16777216 511
past_255 = record {
  raise = record { some = omega arith; more = omega arith; few = omega arith; apart = (1, omega arith, (refl, refl)) };
  within = omega arith;
  no_more = omega arith;
  greatest = λ x raise le double. omega (arith, double);
}

-- so these double for ever
past_65535 : IsNext 65535 16777216 131071
past_65535 = record {
  raise = record { some = omega arith; more = omega arith; few = omega arith; apart = (2, omega arith, (refl, refl)) };
  within = omega arith;
  no_more = omega arith;
  greatest = λ x raise le double. omega (arith, double);
}

past_131071 : IsNext 131071 16777216 262143
past_131071 = record {
  raise = record { some = omega arith; more = omega arith; few = omega arith; apart = (2, omega arith, (refl, refl)) };
  within = omega arith;
  no_more = omega arith;
  greatest = λ x raise le double. omega (arith, double);
}

-- not fewer than there may be, nor more
not_fewer : IsNext 100 150 149 → ⊥
not_fewer next = let most = next.greatest 150 by_half (omega arith) (omega arith) in omega (arith, most)

not_four : IsNext 1 100 4 → ⊥
not_four next = omega (arith, next.no_more)

-- none up to twice as many
none_to_510 : (to : ℕ) → IsNext 255 510 to → ⊥
none_to_510 to next = let past = above_full 255 to 1 next.raise full_255 in omega (arith, past, next.within)

-- and none at all past this one
the_last : (x : ℕ) → IsRaise 16777215 x → ⊥
the_last x raise = let past = above_full 16777215 x 3 raise full_16777215 in omega (arith, past, raise.few)

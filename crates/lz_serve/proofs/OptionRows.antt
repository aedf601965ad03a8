-- Worked rows: bounds that aren't those of so many seconds.
use Rattle.std.{proofs.Common.{◌≡◌, Some, None, arith}, specs.{Duration.{as_nanos}, declared.time.Duration.{Duration}}}
use Rattle.lz_serve.specs.Options.{IsIdleBound}

-- 0 seconds are no bound, and 5 are one
bound_of_none : (d : Duration) → IsIdleBound 0 (Some d) → ⊥
bound_of_none d is = absurd cc

none_of_five : IsIdleBound 5 None → ⊥
none_of_five is = is

-- it is neither shorter nor longer
a_second_less : (d : Duration) → as_nanos d ≡ 4_000_000_000 → IsIdleBound 5 (Some d) → ⊥
a_second_less d four is = omega (arith, four, is)

a_nanosecond_more : (d : Duration) → as_nanos d ≡ 5_000_000_001 → IsIdleBound 5 (Some d) → ⊥
a_nanosecond_more d more is = omega (arith, more, is)

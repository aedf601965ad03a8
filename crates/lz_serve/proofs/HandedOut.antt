-- How many connections come at once.
use Rattle.std.proofs.Common.{◌≡◌, ◌≤◌, Option, Some, None, Result, Ok, Err, refl, arith}
use Rattle.lz_serve.specs.Pollers.{handed_out}

-- an accept hands out one at most
pub one_at_most : {S E : Type 0} (r : Result (Option S) E) → handed_out r ≤ 1
one_at_most (Ok (Some stream)) = omega arith
one_at_most (Ok None) = omega arith
one_at_most (Err fault) = omega arith

-- rows: a connection that came is one, and none or a fault is none
some_is_one : {S : Type 0} (E : Type 0) (stream : S) → handed_out {E = E} (Ok (Some stream)) ≡ 1
some_is_one E stream = refl

none_is_none : (S E : Type 0) → handed_out {S = S} {E = E} (Ok None) ≡ 1 → ⊥
none_is_none S E is = absurd (omega (arith, is))

fault_is_none : (S : Type 0) {E : Type 0} (fault : E) → handed_out {S = S} (Err fault) ≡ 1 → ⊥
fault_is_none S fault is = absurd (omega (arith, is))

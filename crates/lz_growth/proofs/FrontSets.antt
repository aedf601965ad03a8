-- The sets that files that grow hold, and those that their fronts hold after a crash.
use Rattle.std.proofs.Common.{ℕ, List, length, subst, sym, ap, arith}
use Rattle.lz_slot.specs.{Sets.{Keys}, Bytes.{Holds}}
use Rattle.lz_growth.specs.{Growths.{HoldsGrowing}, Fronts.{left_of}, TimelyFronts.{left_grows, left_there}}

pub left_holds : (N : ℕ) (t : List ℕ) (S : Keys) → HoldsGrowing t N S → Holds (left_of N t) N S
left_holds N t S holds = subst (λ (c : List ℕ). Holds c N S) (sym (left_there N t (record { long = holds.long; head = holds.head }))) holds.slots

pub holds_left : (N : ℕ) (t : List ℕ) (S : Keys) → Holds (left_of N t) N S → HoldsGrowing t N S
holds_left N t S holds =
    let is = left_grows N t (λ none. omega (arith, holds.size, ap length none)) in
    record { long = is.long; head = is.head; slots = subst (λ (c : List ℕ). Holds c N S) (left_there N t is) holds }

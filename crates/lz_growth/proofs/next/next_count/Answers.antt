use Rattle.lz_growth.proofs.next.next_count.Goals as goal
use Rattle.std.proofs.{Common.{◌≡◌, ◌⊎◌, ⊎_elim, ◌+◌, ◌*◌, ◌≤◌, ◌<◌, ℕ, min, arith}, lemmas.Bool.{cases_lt}}
use Rattle.lz_slot.specs.Limits.{most_slots}
use Rattle.lz_growth.{specs.{Growths.{IsRaise}, Nexts.{IsNext}}, proofs.NextCounts.{near_raise}}

module _ (from most few bound best : ℕ) (is : few ≡ min most most_slots) (bound_is : bound ≡ min few (2 * from + 1)) (greatest : (x : ℕ) → IsRaise from x → x ≤ bound → x ≤ best) where
  best_next : (best ≡ from) ⊎ IsRaise from best → best ≤ bound → from < best → IsNext from most best
  best_next raise within more = record {
    raise = ⊎_elim (λ same. absurd (omega (arith, same, more))) (λ it. it) raise;
    within = omega (arith, within, is, bound_is);
    no_more = omega (arith, within, bound_is);
    greatest = λ x it le twice. greatest x it (omega (arith, le, twice, is, bound_is, it.few));
  }

  none_next : best ≤ from → (x : ℕ) → IsRaise from x → most < x
  none_next none x raise = ⊎_elim
      (λ past. past)
      (λ le.
      let near = near_raise from x raise in
      let at_most = greatest near.0 near.1 (omega (arith, le, near.2, near.3, is, bound_is, raise.few)) in
      absurd (omega (arith, at_most, none, near.1.more)))
      (cases_lt most x)

pub returns-then-to-from : goal.returns-then-to-from
returns-then-to-from c =
    let it = c.greatest_count-to.ensures in
    best_next c.args.from c.args.most c.min-most.result c.min.result c.greatest_count-to.result c.min-most.ensures c.min.ensures it.greatest it.raise it.within c.if-to-from.true

pub returns-else-to-from : goal.returns-else-to-from
returns-else-to-from c =
    let it = c.greatest_count-to.ensures in
    none_next c.args.from c.args.most c.min-most.result c.min.result c.greatest_count-to.result c.min-most.ensures c.min.ensures it.greatest c.if-to-from.false

use Rattle.lz_growth.proofs.next.greatest_count.Goals as goal
use Rattle.std.proofs.{Common.{◌≡◌, ◌⊎◌, ⊎_elim, inl, inr, ◌+◌, ◌≤◌, ◌<◌, ℕ, sym, subst, max, arith}, lemmas.Bool.{cases_lt}}
use Rattle.lz_slot.specs.Limits.{most_slots}
use Rattle.lz_growth.specs.{Growths.{IsAlikeBut, IsRaise}, Nexts.{IsGreatestAt}}

-- the better one of two, where one more byte was looked at
module _ (from most best byte to new : ℕ) (some : 1 ≤ from) (few : most ≤ most_slots) (small : byte < 8) (raise : (best ≡ from) ⊎ IsRaise from best) (within : best ≤ most)
    (greatest : (b x : ℕ) → b < byte → IsAlikeBut b from x → x ≤ most → x ≤ best) (at : IsGreatestAt byte from most to) (is : new ≡ max best to) where
  better : from < to → IsRaise from to
  better more = record { some = some; more = more; few = omega (arith, at.within, few); apart = (byte, small, at.alike) }

  new_raise : (new ≡ from) ⊎ IsRaise from new
  new_raise = ⊎_elim
      (λ lt. let new_is : new ≡ to = omega (arith, is, lt) in ⊎_elim
      (λ more. inr (subst (IsRaise from) (sym new_is) (better more)))
      (λ none. inl (omega (arith, new_is, none, at.no_less)))
      (cases_lt from to))
      (λ le. let new_is : new ≡ best = omega (arith, is, le) in subst (λ (n : ℕ). (n ≡ from) ⊎ IsRaise from n) (sym new_is) raise)
      (cases_lt best to)

  new_greatest : (b x : ℕ) → b < byte + 1 → IsAlikeBut b from x → x ≤ most → x ≤ new
  new_greatest b x lt alike le = ⊎_elim
      (λ before. let old = greatest b x before alike le in omega (arith, old, is))
      (λ here. let this : b ≡ byte = omega (arith, here, lt) in let now = at.greatest x (subst (λ (n : ℕ). IsAlikeBut n from x) this alike) le in omega (arith, now, is))
      (cases_lt b byte)

pub loop-byte-preserved : goal.loop-byte-preserved
loop-byte-preserved c =
    let is = c.max-best.ensures in
    let at = c.greatest_at.ensures in
    record {
      raise = new_raise c.args.from c.args.most c.loop-byte.best c.loop-byte.byte c.greatest_at.result c.max-best.result c.requires.some c.requires.few c.loop-byte-test.true c.loop-byte.invariant.raise
          c.loop-byte.invariant.within c.loop-byte.invariant.greatest at is;
      within = omega (arith, is, at.within);
      greatest = new_greatest c.args.from c.args.most c.loop-byte.best c.loop-byte.byte c.greatest_at.result c.max-best.result c.requires.some c.requires.few c.loop-byte-test.true c.loop-byte.invariant.raise
          c.loop-byte.invariant.within c.loop-byte.invariant.greatest at is;
    }

-- Which number of slots a file that grows is raised to.
use Rattle.std.specs.Prelude.{ℕ, ◌+◌, ◌*◌, ◌≤◌}
use Rattle.lz_growth.specs.Growths.{IsAlikeBut, IsRaise}

-- the most slots that one byte of the number gives, up to one more than twice as many and to this most
pub record IsNext (from most to : ℕ) : Type 0 where
  pub raise : IsRaise from to
  pub within : to ≤ most
  pub no_more : to ≤ 2 * from + 1
  pub greatest : (x : ℕ) → IsRaise from x → x ≤ most → x ≤ 2 * from + 1 → x ≤ to

-- the greatest number at or below this one that differs from another in this byte alone, or that one itself
pub record IsGreatestAt (byte from most to : ℕ) : Type 0 where
  pub alike : IsAlikeBut byte from to
  pub no_less : from ≤ to
  pub within : to ≤ most
  pub greatest : (x : ℕ) → IsAlikeBut byte from x → x ≤ most → x ≤ to

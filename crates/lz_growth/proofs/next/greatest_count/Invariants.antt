use Rattle.lz_growth.proofs.next.greatest_count.Given as goal
use Rattle.std.proofs.Common.{◌≡◌, ◌⊎◌, ◌≤◌, ◌<◌, ℕ}
use Rattle.lz_growth.specs.Growths.{IsAlikeBut, IsRaise}

abbrev pub invariant-loop-byte : goal.invariant-loop-byte
invariant-loop-byte l = record {
  raise : (l.best ≡ l.from) ⊎ IsRaise l.from l.best;
  within : l.best ≤ l.most;
  greatest : (byte x : ℕ) → byte < l.byte → IsAlikeBut byte l.from x → x ≤ l.most → x ≤ l.best;
}

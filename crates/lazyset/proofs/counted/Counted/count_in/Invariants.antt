use Rattle.lazyset.proofs.counted.Counted.count_in.Given as goal
use Rattle.std.proofs.Common.{◌≡◌}

abbrev pub invariant-loop-byte : goal.invariant-loop-byte
invariant-loop-byte g l = l.self.reader ≡ l.initial.self.reader

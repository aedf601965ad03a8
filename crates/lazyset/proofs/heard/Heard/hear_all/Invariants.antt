use Rattle.lazyset.proofs.heard.Heard.hear_all.Given as goal
use Rattle.std.proofs.Common.{◌≡◌}

abbrev pub invariant-loop-byte : goal.invariant-loop-byte
invariant-loop-byte g l = l.self.writer ≡ l.initial.self.writer

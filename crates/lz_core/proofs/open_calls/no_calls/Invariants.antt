use Rattle.lz_core.proofs.open_calls.no_calls.Given as goal
use Rattle.std.proofs.Common.{◌≡◌, None, replicate}

abbrev pub invariant-loop : goal.invariant-loop
invariant-loop l = l.calls.items ≡ replicate l.counter None

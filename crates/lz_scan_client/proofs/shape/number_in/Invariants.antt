use Rattle.lz_scan_client.proofs.shape.number_in.Given as goal
use Rattle.std.proofs.Common.{length}
use Rattle.lz_scan_client.proofs.Shaped.{Lines}

abbrev pub invariant-loop-end : goal.invariant-loop-end
invariant-loop-end l = Lines l.info l.rest

abbrev pub decreases-loop-end : goal.decreases-loop-end
decreases-loop-end l = length l.rest

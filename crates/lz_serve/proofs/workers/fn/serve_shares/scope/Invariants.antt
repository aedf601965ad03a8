use Rattle.lz_serve.proofs.workers.fn.serve_shares.scope.Given as goal
use Rattle.std.specs.{Prelude.{◌≡◌, ◌+◌, ◌≤◌, vec_capacity, vec_items, vec_len}, Vec.Iter.{into_iter_len}}
use Rattle.lz_serve.specs.Promised.{promised}

abbrev pub invariant-loop-worker : goal.invariant-loop-worker
invariant-loop-worker g l =
    (vec_len l.back + promised (vec_items l.threads) + vec_len l.free + vec_len l.mine ≡ l.given)
    × (l.given ≤ vec_capacity l.back)
    × (vec_len l.threads + into_iter_len l.worker-iterator ≤ vec_capacity l.threads)

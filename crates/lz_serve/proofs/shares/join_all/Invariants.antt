use Rattle.lz_serve.proofs.shares.join_all.Given as goal
use Rattle.std.specs.{Prelude.{◌≡◌, ◌+◌, ◌≤◌, vec_capacity, vec_len}, Vec.Iter.{into_iter_items}}
use Rattle.lz_serve.specs.Promised.{promised}

abbrev pub invariant-loop-thread : goal.invariant-loop-thread
invariant-loop-thread g l =
    (vec_len l.free + promised (into_iter_items l.thread-iterator) ≡ vec_len l.fn.free + promised l.fn.threads.items)
    × (vec_len l.free + promised (into_iter_items l.thread-iterator) ≤ vec_capacity l.free)

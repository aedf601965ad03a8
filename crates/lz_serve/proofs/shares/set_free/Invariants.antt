use Rattle.lz_serve.proofs.shares.set_free.Given as goal
use Rattle.std.specs.Prelude.{◌≡◌, ◌+◌, ◌≤◌, All, vec_capacity, vec_items, vec_len}
use Rattle.lz_set.specs.Names.{MayCall}
use Rattle.lz_serve.specs.Halts.{IsCalmAfter}

abbrev pub invariant-loop-pass : goal.invariant-loop-pass
invariant-loop-pass g l =
    (vec_len l.free + vec_len l.passes ≡ vec_len l.fn.passes)
    × (vec_len l.fn.passes ≤ vec_capacity l.free)
    × All (MayCall g.N.Named.board) (vec_items l.passes)
    × All (IsCalmAfter g.B.Given.parts) (vec_items l.passes)

abbrev pub decreases-loop-pass : goal.decreases-loop-pass
decreases-loop-pass g l = goal.left-loop-pass g l

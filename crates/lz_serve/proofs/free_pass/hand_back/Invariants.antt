use Rattle.lz_serve.proofs.free_pass.hand_back.Given as goal
use Rattle.std.specs.{Prelude.{◌≡◌, ◌+◌, ◌≤◌, ◌++◌, ◌||◌, true, false, All, map, vec_capacity, vec_items, vec_len}, List.{Any, list_any}}
use Rattle.std.specs.Vec.Iter.{into_iter_items, into_iter_len}
use Rattle.lz_set.specs.Names.{MayCall}
use Rattle.lz_serve.specs.Halts.{IsCalmAfter, SawHalt}

abbrev pub invariant-loop-pass : goal.invariant-loop-pass
invariant-loop-pass g l =
    (vec_len l.passes + into_iter_len l.pass-iterator ≡ vec_len l.fn.free)
    × (vec_len l.fn.free ≤ vec_capacity l.passes)
    × All (MayCall g.N.Named.board) (vec_items l.passes)
    × (l.halted ≡ true → Any SawHalt (vec_items l.passes))
    × (l.halted ≡ false → All (IsCalmAfter g.B.Given.parts) (vec_items l.passes))
    × (vec_items l.passes ++ map (λ f. f.pass) (into_iter_items l.pass-iterator) ≡ map (λ f. f.pass) l.fn.free.items)
    × ((l.halted || list_any (λ f. f.halted) (into_iter_items l.pass-iterator)) ≡ list_any (λ f. f.halted) l.fn.free.items)

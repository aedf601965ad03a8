use Rattle.lz_serve.proofs.serving.take_in_all.Given as goal
use Rattle.std.specs.{Prelude.{◌≡◌, ◌+◌, ◌≤◌, vec_len}, Vec.Iter.{into_iter_len}}

abbrev pub invariant-loop-free : goal.invariant-loop-free
invariant-loop-free g l = (l.desk.given + into_iter_len l.free-iterator ≡ vec_len l.fn.passes) × (vec_len l.fn.passes ≤ l.desk.most) × (l.desk.free ≡ l.desk.given)

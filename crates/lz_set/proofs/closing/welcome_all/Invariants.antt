use Rattle.lz_set.proofs.closing.welcome_all.Given as goal
use Rattle.std.proofs.Common.{◌≡◌, All, map}
use Rattle.lz_board.specs.{Notes.{trace_of}, Seats.{IsOf, part}}
use Rattle.lz_set.proofs.Welcome.{Welcomed}

abbrev pub invariant-loop-i : goal.invariant-loop-i
invariant-loop-i g l = record {
  same : l.locked ≡ l.fn.locked;
  here : All (λ p. IsOf g.N.Named.board p) l.passes;
  so : Welcomed g.N.Named.board l.fn.locked.notes (trace_of g.N.Named.board.opened l.fn.locked.notes) l.i (map (λ p. part p) l.fn.passes) (map (λ p. part p) l.passes);
}

use Rattle.lz_refinement.proofs.locked.Locked.moments.Goals as goal
use Rattle.std.proofs.Common.{subst}
use Rattle.lz_board.specs.Seats.{notes}
use Rattle.lz_refinement.{specs.Moments.{ExplainedSince}, proofs.Moments.HeldMoments.{since_explained}}

pub returns-clause-explained : goal.returns-clause-explained
returns-clause-explained g c =
    subst (λ v. ExplainedSince g.N.Named.board g.N.Named.first v.notes (g.D.Disk.device v.disk)) c.self.view_is
    (since_explained g.N.Named.board g.N.Named.first (notes c.self.inside.pen) (g.D.Disk.device c.self.inside.yard.disk) c.self.invariant.2)

use Rattle.lz_refinement.proofs.locked.Locked.close.Goals as goal
use Rattle.std.proofs.Common.{◌≡◌, ◌⊎◌, ◌≤◌, ◌<◌, sym, subst}
use Rattle.lz_refinement.proofs.{Vocabulary.{last_sync, halt_word, trace_of, notes}, Moments.HeldMoments.{since_explained}, Lives.HaltedVault.{over_halted}}
use Rattle.lz_refinement.specs.Moments.{ExplainedSince}

pub returns-clause-explained : goal.returns-clause-explained
returns-clause-explained g c =
    subst (λ d. ExplainedSince g.N.Named.board g.N.Named.first c.args.self.notes (g.D.Disk.device d)) (sym c.close.ensures)
    (subst (λ v. ExplainedSince g.N.Named.board g.N.Named.first v.notes (g.D.Disk.device c.self.inside.yard.disk)) c.self.view_is
    (since_explained g.N.Named.board g.N.Named.first (notes c.self.inside.pen) (g.D.Disk.device c.self.inside.yard.disk) c.self.invariant.2))

pub returns-clause-over : goal.returns-clause-over
returns-clause-over g c =
    subst (λ d. halt_word (trace_of g.N.Named.board.opened c.args.self.notes) ≡ 1 → (last_sync ≤ c.args.self.yard.vault.syncs) ⊎ (g.N.Named.first.faults < (g.D.Disk.device d).faults)) (sym c.close.ensures)
    (subst (λ v. halt_word (trace_of g.N.Named.board.opened v.notes) ≡ 1 → (last_sync ≤ v.yard.vault.syncs) ⊎ (g.N.Named.first.faults < (g.D.Disk.device c.self.inside.yard.disk).faults)) c.self.view_is
    (over_halted g.N.Named.board (notes c.self.inside.pen) c.self.inside.yard.yard (g.D.Disk.device c.self.inside.yard.disk) g.N.Named.first g.N.Named.format c.self.invariant.1 c.self.invariant.3))

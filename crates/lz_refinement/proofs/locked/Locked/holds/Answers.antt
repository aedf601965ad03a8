use Rattle.lz_refinement.proofs.locked.Locked.holds.Goals as goal
use Rattle.std.proofs.Common.{◌+◌, ◌≤◌, subst, arith}
use Rattle.lz_refinement.proofs.{Vocabulary.{HaltLasts, told_device, IsTold, shape_of_sizes, notes}, Lives.ToldFailures.{failures_told}, Marks.RunningSet.{history_of}}
use Rattle.lz_refinement.{proofs.Marks.WholeHistory.{history_halts, history_passes, history_told}, specs.{Holds.{IsLocked}, Marks.{AreOfPasses, marks_in}}}
use Rattle.lz_refinement.specs.RunningSets.{HasHistory}

pub returns-clause-history : goal.returns-clause-history
returns-clause-history g c =
    subst (λ v. HasHistory g.N.Named.board v.notes (g.D.Disk.device v.disk)) c.self.view_is
    (history_of g.N.Named.board (notes c.self.inside.pen) c.self.inside.yard.yard (g.D.Disk.device c.self.inside.yard.disk) c.self.invariant.1)

pub returns-clause-told : goal.returns-clause-told
returns-clause-told g c =
    subst (λ v. IsTold (marks_in (shape_of_sizes g.N.Named.board.sizes) v.notes)) c.self.view_is
    (history_told g.N.Named.board (notes c.self.inside.pen) c.self.inside.yard.yard (g.D.Disk.device c.self.inside.yard.disk) c.self.invariant.1)

pub returns-clause-passes : goal.returns-clause-passes
returns-clause-passes g c =
    subst (λ v. AreOfPasses g.N.Named.board.sizes.passes (marks_in (shape_of_sizes g.N.Named.board.sizes) v.notes)) c.self.view_is
    (history_passes g.N.Named.board (notes c.self.inside.pen) c.self.inside.yard.yard (g.D.Disk.device c.self.inside.yard.disk) c.self.invariant.1)

pub returns-clause-halts : goal.returns-clause-halts
returns-clause-halts g c =
    subst (λ v. HaltLasts (marks_in (shape_of_sizes g.N.Named.board.sizes) v.notes)) c.self.view_is
    (history_halts g.N.Named.board (notes c.self.inside.pen) c.self.inside.yard.yard (g.D.Disk.device c.self.inside.yard.disk) c.self.invariant.1)

pub returns-clause-device : goal.returns-clause-device
returns-clause-device g c =
    subst (λ v. told_device (marks_in (shape_of_sizes g.N.Named.board.sizes) v.notes) ≤ 1) c.self.view_is
    (failures_told g.N.Named.board (notes c.self.inside.pen) c.self.inside.yard.yard (g.D.Disk.device c.self.inside.yard.disk) c.self.invariant.1).0

pub returns-clause-faults : goal.returns-clause-faults
returns-clause-faults g c =
    let told = (failures_told g.N.Named.board (notes c.self.inside.pen) c.self.inside.yard.yard (g.D.Disk.device c.self.inside.yard.disk) c.self.invariant.1).1 in
    let counted = c.self.invariant.3.faults in
    subst (λ v. g.N.Named.first.faults + told_device (marks_in (shape_of_sizes g.N.Named.board.sizes) v.notes) ≤ (g.D.Disk.device v.disk).faults) c.self.view_is
    (omega (arith, told, counted))

pub returns-clause-locked : goal.returns-clause-locked
returns-clause-locked g c =
    subst (λ v. IsLocked g.N.Named.board v.notes v.yard (g.D.Disk.device v.disk)) c.self.view_is c.self.invariant.1

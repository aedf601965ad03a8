use Rattle.lz_disk.proofs.file.FileDisk.hand_over.Goals as goal
use Rattle.std.proofs.Common.{Option, refl, subst}
use Rattle.lz_disk.{specs.FileDisks.{KeepsFile, waiting_of}, proofs.OverFiles.{handed_keeps, handed_part, waits_part}}

pub returns-in_err-write-clause-part : goal.returns-in_err-write-clause-part
returns-in_err-write-clause-part g c =
    let keeps = subst (λ (w : Option _). KeepsFile (g.F.Disk.device c.args.self.now.file) (waiting_of w) c.args.self.now.unsynced.writes) c.in-Some.is c.args.self.now.keeps in
    let failed = rw (c.in-Some-next.ensures.all.0, c.in-Some-next.ensures.all.1) at c.in_err-write.ensures.failed in
    let part = waits_part _ _ c.in-Some.gathered _ _ (g.met.F.Disk.timely c.args.self.now.file) keeps c.in_err-write.ensures.call failed in
    rw c.in-Some.is (record { honest = part.honest; calls = part.calls; later = part.later; cause = λ failed. part.cause refl; time = part.time })

pub invariant_of-self-2 : goal.invariant_of-self-2
invariant_of-self-2 g c =
    let keeps = subst (λ (w : Option _). KeepsFile (g.F.Disk.device c.args.self.now.file) (waiting_of w) c.args.self.now.unsynced.writes) c.in-Some.is c.args.self.now.keeps in
    let made = rw (c.in-Some-next.ensures.all.0, c.in-Some-next.ensures.all.1) at c.in_ok-write.ensures.written in
    rw c.clear.ensures (record { keeps = handed_keeps _ _ c.in-Some.gathered _ 0 (g.met.F.Disk.timely c.args.self.now.file) keeps c.write.ensures.call made })

pub returns-clause-part : goal.returns-clause-part
returns-clause-part g c =
    let keeps = subst (λ (w : Option _). KeepsFile (g.F.Disk.device c.args.self.now.file) (waiting_of w) c.args.self.now.unsynced.writes) c.in-Some.is c.args.self.now.keeps in
    let made = rw (c.in-Some-next.ensures.all.0, c.in-Some-next.ensures.all.1) at c.in_ok-write.ensures.written in
    rw (c.in-Some.is, c.clear.ensures) (handed_part _ _ c.in-Some.gathered _ _ (g.met.F.Disk.timely c.args.self.now.file) keeps c.in_ok-write.ensures.call made)

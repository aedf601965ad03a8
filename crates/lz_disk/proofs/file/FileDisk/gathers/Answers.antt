use Rattle.lz_disk.proofs.file.FileDisk.gathers.Goals as goal
use Rattle.std.proofs.Common.{Option, subst}
use Rattle.lz_disk.{specs.FileDisks.{KeepsFile, waiting_of}, proofs.OverFiles.{gathered_keeps, gathered_medium, gathered_part}}

pub invariant_of-self-2 : goal.invariant_of-self-2
invariant_of-self-2 g c =
    let keeps = subst (λ (w : Option _). KeepsFile (g.F.Disk.device c.args.self.now.file) (waiting_of w) c.args.self.now.unsynced.writes) c.in-Some.is c.args.self.now.keeps in
    let place = rw c.in-Some.is at c.requires in
    rw c.and-self.ensures
    (record { keeps = gathered_keeps (g.F.Disk.device c.args.self.now.file) c.in-Some.gathered c.add.new.self c.args.self.now.unsynced.writes c.args.at c.args.bytes.now keeps place (c.add.ensures.joined c.if-not-add.false) })

pub returns-clause-part : goal.returns-clause-part
returns-clause-part g c =
    let keeps = subst (λ (w : Option _). KeepsFile (g.F.Disk.device c.args.self.now.file) (waiting_of w) c.args.self.now.unsynced.writes) c.in-Some.is c.args.self.now.keeps in
    let place = rw c.in-Some.is at c.requires in
    rw (c.in-Some.is, c.and-self.ensures)
    (gathered_part (g.F.Disk.device c.args.self.now.file) c.in-Some.gathered c.add.new.self c.args.self.now.unsynced.writes c.args.at c.args.bytes.now keeps place (c.add.ensures.joined c.if-not-add.false) c.args.self.now.calls.count)

pub returns-clause-written : goal.returns-clause-written
returns-clause-written g c = λ yes.
    let keeps = subst (λ (w : Option _). KeepsFile (g.F.Disk.device c.args.self.now.file) (waiting_of w) c.args.self.now.unsynced.writes) c.in-Some.is c.args.self.now.keeps in
    let place = rw c.in-Some.is at c.requires in
    rw (c.in-Some.is, c.and-self.ensures)
    (gathered_medium (g.F.Disk.device c.args.self.now.file) c.in-Some.gathered c.add.new.self c.args.self.now.unsynced.writes c.args.at c.args.bytes.now keeps place (c.add.ensures.joined c.if-not-add.false))

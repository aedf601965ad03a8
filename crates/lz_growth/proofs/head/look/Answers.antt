use Rattle.lz_growth.proofs.head.look.Goals as goal
use Rattle.std.{proofs.Common.{ap}, specs.Prelude.{is_err}}
use Rattle.lz_vault.proofs.MakingParts.{part_if}
use Rattle.lz_growth.proofs.HeadLooks.{read_part, sized_part}

pub returns-in_err-size-clause-part : goal.returns-in_err-size-clause-part
returns-in_err-size-clause-part g c =
    part_if _ _ _ _ _ (λ told. ap is_err c.in_err-size.was)
    (sized_part c.sync.result _ (g.D.Disk.device c.args.disk.now) (g.D.Disk.device c.sync.new.self) (g.D.Disk.device c.size.new.self)
    (g.met.D.Disk.timely c.args.disk.now) c.sync.ensures.call c.sync.ensures.synced c.sync.ensures.bytes c.sync.ensures.failed
    (g.met.D.Disk.timely c.sync.new.self) c.size.ensures.call c.size.ensures.medium)

pub returns-in_err-read-clause-part : goal.returns-in_err-read-clause-part
returns-in_err-read-clause-part g c =
    part_if _ _ _ _ _ (λ told. ap is_err c.in_err-read.was)
    (read_part c.sync.result _ (g.D.Disk.device c.args.disk.now) (g.D.Disk.device c.sync.new.self) (g.D.Disk.device c.size.new.self)
    (g.met.D.Disk.timely c.args.disk.now) c.sync.ensures.call c.sync.ensures.synced c.sync.ensures.bytes c.sync.ensures.failed
    (g.met.D.Disk.timely c.sync.new.self) c.size.ensures.call c.size.ensures.medium
    _ (g.D.Disk.device c.read.new.self) (g.met.D.Disk.timely c.size.new.self) c.read.ensures.call c.read.ensures.medium)

pub returns-in_ok-read-clause-part : goal.returns-in_ok-read-clause-part
returns-in_ok-read-clause-part g c =
    read_part c.sync.result _ (g.D.Disk.device c.args.disk.now) (g.D.Disk.device c.sync.new.self) (g.D.Disk.device c.size.new.self)
    (g.met.D.Disk.timely c.args.disk.now) c.sync.ensures.call c.sync.ensures.synced c.sync.ensures.bytes c.sync.ensures.failed
    (g.met.D.Disk.timely c.sync.new.self) c.size.ensures.call c.size.ensures.medium
    _ (g.D.Disk.device c.read.new.self) (g.met.D.Disk.timely c.size.new.self) c.in_ok-read.ensures.call c.read.ensures.medium

pub returns-else-size-ge16-clause-part : goal.returns-else-size-ge16-clause-part
returns-else-size-ge16-clause-part g c =
    sized_part c.sync.result _ (g.D.Disk.device c.args.disk.now) (g.D.Disk.device c.sync.new.self) (g.D.Disk.device c.size.new.self)
    (g.met.D.Disk.timely c.args.disk.now) c.sync.ensures.call c.sync.ensures.synced c.sync.ensures.bytes c.sync.ensures.failed
    (g.met.D.Disk.timely c.sync.new.self) c.in_ok-size.ensures.call c.size.ensures.medium

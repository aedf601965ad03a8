use Rattle.lazyset_file_commands.proofs.rewriting.durable_size.Goals as goal
use Rattle.lazyset_file_commands.proofs.Rewritten.{keeps_then, same_keeps, sync_keeps}

pub returns-clause-keeps : goal.returns-clause-keeps
returns-clause-keeps g c =
    keeps_then (Unit {0}) (Unit {0}) (g.D.Disk.device c.args.disk.now) (g.D.Disk.device c.sync.new.self) (g.D.Disk.device c.size.new.self) (λ honest holds. holds)
    (sync_keeps c.sync.result (g.D.Disk.device c.args.disk.now) (g.D.Disk.device c.sync.new.self) (g.met.D.Disk.timely c.args.disk.now) c.sync.ensures.call c.sync.ensures.synced c.sync.ensures.bytes c.sync.ensures.failed (Unit {0}))
    (same_keeps (Unit {0}) (g.D.Disk.device c.sync.new.self) (g.D.Disk.device c.size.new.self) _ (g.met.D.Disk.timely c.sync.new.self) c.size.ensures.call c.size.ensures.medium)

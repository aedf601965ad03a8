use Rattle.lz_growth.proofs.front.FrontDisk.sync.Goals as goal
use Rattle.lz_growth.proofs.FrontCalls.{behind_call, sync_bytes, sync_fronted}

pub returns-clause-call : goal.returns-clause-call
returns-clause-call g c =
    let old = g.D.Disk.device c.args.self.now.disk in
    let new = g.D.Disk.device c.sync.new.self in
    behind_call old new c.args.self.now.slots c.args.self.now.refused.count
    (λ honest. sync_fronted c.sync.result old.medium new.medium c.args.self.now.slots (c.args.self.now.keeps.fronted honest) (c.sync.ensures.synced honest) (c.sync.ensures.bytes honest) (c.sync.ensures.failed honest)) (g.met.D.Disk.timely c.sync.new.self) c.sync.ensures.call

pub returns-clause-bytes : goal.returns-clause-bytes
returns-clause-bytes g c = λ honest. sync_bytes c.sync.result c.args.self.now.slots (g.D.Disk.device c.sync.new.self).medium.seen (c.sync.ensures.bytes honest)

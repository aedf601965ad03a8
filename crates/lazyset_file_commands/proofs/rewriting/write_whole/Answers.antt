use Rattle.lazyset_file_commands.proofs.rewriting.write_whole.Goals as goal
use Rattle.std.proofs.Common.{◌≡◌, true}
use Rattle.lz_vault.proofs.MakingParts.{always}
use Rattle.lazyset_file_commands.proofs.Rewritten.{keeps_then, rewritten_any, rewritten_same, sync_keeps}

pub returns-in-Ok-clause-keeps : goal.returns-in-Ok-clause-keeps
returns-in-Ok-clause-keeps g c =
    keeps_then _ _ _ _ _ (λ honest on. on) c.in-Ok.ensures.keeps
    (sync_keeps c.sync.result (g.D.Disk.device c.write_pieces.new.disk) (g.D.Disk.device c.sync.new.self) (g.met.D.Disk.timely c.write_pieces.new.disk) c.sync.ensures.call c.sync.ensures.synced c.sync.ensures.bytes c.sync.ensures.failed
    ((g.D.Disk.device c.args.disk.now).medium.bytewise ≡ true))

pub returns-in-Ok-clause-same : goal.returns-in-Ok-clause-same
returns-in-Ok-clause-same g c =
    rewritten_same c.sync.result (g.D.Disk.device c.write_pieces.new.disk) (g.D.Disk.device c.sync.new.self) (g.met.D.Disk.timely c.write_pieces.new.disk) c.sync.ensures.call c.sync.ensures.synced c.sync.ensures.bytes c.sync.ensures.failed
    (g.D.Disk.device c.args.disk.now) c.args.size (g.met.D.Disk.timely c.args.disk.now) c.in-Ok.ensures.keeps c.in-Ok.ensures.written

pub returns-in-Ok-clause-written : goal.returns-in-Ok-clause-written
returns-in-Ok-clause-written g c = λ honest off.
    always c.sync.result _
    (rewritten_any c.sync.result (g.D.Disk.device c.write_pieces.new.disk) (g.D.Disk.device c.sync.new.self) (g.met.D.Disk.timely c.write_pieces.new.disk) c.sync.ensures.call c.sync.ensures.synced c.sync.ensures.bytes c.sync.ensures.failed
    (g.D.Disk.device c.args.disk.now) c.args.size (g.met.D.Disk.timely c.args.disk.now) c.in-Ok.ensures.keeps c.in-Ok.ensures.written honest (c.requires honest) off)

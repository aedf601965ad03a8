use Rattle.lz_disk.proofs.file.FileDiskDisk.sync.Goals as goal
use Rattle.std.proofs.Common.{IsTrue, [], subst, sym}
use Rattle.lz_disk.{specs.FileDisks.{device_over, waiting_of}, proofs.OverFiles.{call_then, durable_part, nothing_waits}}

pub returns-clause-call : goal.returns-clause-call
returns-clause-call g c =
    let over = rw c.count_one.ensures at c.in_ok-hand_over.ensures.part in
    let disk = c.hand_over.new.self in
    let done = durable_part (g.F.Disk.device disk.file) (g.F.Disk.device c.sync.new.self) (waiting_of disk.gathered) disk.unsynced.writes disk.calls.count
    (g.met.F.Disk.timely disk.file) disk.keeps c.in_ok-hand_over.ensures.none c.in_ok-sync.ensures.call c.in_ok-sync.ensures.synced in
    rw c.none-self.ensures
    (call_then (g.F.Disk.device c.args.self.now.file) (waiting_of c.args.self.now.gathered) c.args.self.now.unsynced.writes c.args.self.now.calls.count
    (device_over (g.F.Disk.device disk.file) (waiting_of disk.gathered) disk.unsynced.writes disk.calls.count) (device_over (g.F.Disk.device c.sync.new.self) (waiting_of disk.gathered) [] disk.calls.count)
    (g.met.F.Disk.timely c.args.self.now.file) c.args.self.now.keeps c.in_ok-hand_over.ensures.medium over done)

pub returns-clause-bytes : goal.returns-clause-bytes
returns-clause-bytes g c = λ honest.
    rw (nothing_waits (g.F.Disk.device c.sync.new.self).medium.seen (waiting_of c.hand_over.new.self.gathered).at (waiting_of c.hand_over.new.self.gathered).bytes c.in_ok-hand_over.ensures.none)
    (c.in_ok-sync.ensures.bytes (subst IsTrue (sym c.in_ok-hand_over.ensures.part.honest) honest))

use Rattle.lz_vault.proofs.scan.Scan.read_slots.Given as goal
use Rattle.std.proofs.Common.{◌≡◌, ◌+◌, ◌-◌, ◌≤◌, length, IsTrue}
use Rattle.lz_slot.specs.Bytes.{slot_at}
use Rattle.lz_vault.specs.Scans.{AreNoted, IsFresh, OnlyReads, pieces_of}

abbrev pub invariant-loop-done : goal.invariant-loop-done
invariant-loop-done g l = record {
  range : l.done ≤ l.slots;
  room : length l.piece ≡ 4096;
  format : l.self.format ≡ l.initial.self.format;
  count : length l.self.cells ≡ l.done;
  fresh : IsFresh l.initial.self.format l.initial.self → IsFresh l.initial.self.format l.self;
  reads : OnlyReads (g.D.Disk.device l.initial.disk) (g.D.Disk.device l.disk);
  calls : (g.D.Disk.device l.disk).calls + pieces_of (l.slots - l.done) ≡ (g.D.Disk.device l.initial.disk).calls + pieces_of l.slots;
  scan : IsTrue (g.D.Disk.device l.initial.disk).honest → AreNoted (slot_at (g.D.Disk.device l.initial.disk).medium.seen) l.initial.self.cells → AreNoted (slot_at (g.D.Disk.device l.initial.disk).medium.seen) l.self.cells;
}

abbrev pub decreases-loop-done : goal.decreases-loop-done
decreases-loop-done g l = l.slots - l.done

use Rattle.lazyset_set_commands.proofs.found.found_in.Given as goal
use Rattle.std.proofs.Common.{◌≡◌, ◌-◌, ◌≤◌, length, IsTrue}
use Rattle.lz_slot.specs.Bytes.{slot_at}
use Rattle.lz_vault.specs.Scans.{OnlyReads}
use Rattle.lazyset_set_commands.specs.Founds.{found_below}

abbrev pub invariant-loop-done : goal.invariant-loop-done
invariant-loop-done g l = record {
  range : l.done ≤ l.header.slots;
  room : length l.piece ≡ 16384;
  reads : OnlyReads (g.D.Disk.device l.initial.disk) (g.D.Disk.device l.disk);
  found : IsTrue (g.D.Disk.device l.initial.disk).honest → l.found ≡ found_below l.own (slot_at (g.D.Disk.device l.initial.disk).medium.seen) l.done;
}

abbrev pub decreases-loop-done : goal.decreases-loop-done
decreases-loop-done g l = l.header.slots - l.done

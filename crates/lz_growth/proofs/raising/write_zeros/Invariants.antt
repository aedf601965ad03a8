use Rattle.lz_growth.proofs.raising.write_zeros.Given as goal
use Rattle.std.proofs.Common.{◌-◌, ◌≤◌, IsTrue}
use Rattle.lz_vault.specs.Makes.{IsPart}
use Rattle.lz_growth.specs.{Growths.{room_for}, Raises.{BeginsAs, IsCleared, StaysFirm}}

abbrev pub invariant-loop-slot : goal.invariant-loop-slot
invariant-loop-slot g l = record {
  low : l.from ≤ l.slot;
  high : l.slot ≤ l.to;
  part : IsPart (BeginsAs (g.D.Disk.device l.initial.disk).medium.seen (room_for l.from)) (g.D.Disk.device l.initial.disk) (g.D.Disk.device l.disk) ⊥;
  firm : IsTrue (g.D.Disk.device l.initial.disk).honest → StaysFirm (room_for l.from) (g.D.Disk.device l.initial.disk).medium (g.D.Disk.device l.disk).medium;
  cleared : IsTrue (g.D.Disk.device l.initial.disk).honest → IsCleared l.from l.slot (g.D.Disk.device l.disk).medium.seen;
}

abbrev pub decreases-loop-slot : goal.decreases-loop-slot
decreases-loop-slot g l = l.to - l.slot

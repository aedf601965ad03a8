use Rattle.lazyset_file_commands.proofs.rewriting.write_pieces.Given as goal
use Rattle.std.proofs.Common.{◌≡◌, ◌+◌, ◌*◌, ◌-◌, ◌≤◌, length, IsTrue, true}
use Rattle.lazyset_file_commands.specs.Rewritings.{IsRewrittenTo, KeepsImages, pieces_of_bytes}

abbrev pub invariant-loop-done : goal.invariant-loop-done
invariant-loop-done g l = record {
  range : l.done ≤ l.size;
  room : length l.piece ≡ 65536;
  keeps : KeepsImages ((g.D.Disk.device l.initial.disk).medium.bytewise ≡ true) (g.D.Disk.device l.initial.disk) (g.D.Disk.device l.disk);
  written : IsTrue (g.D.Disk.device l.initial.disk).honest → IsRewrittenTo (g.D.Disk.device l.initial.disk).medium l.done (g.D.Disk.device l.disk).medium;
  calls : (g.D.Disk.device l.disk).calls + 2 * pieces_of_bytes (l.size - l.done) ≡ (g.D.Disk.device l.initial.disk).calls + 2 * pieces_of_bytes l.size;
}

abbrev pub decreases-loop-done : goal.decreases-loop-done
decreases-loop-done g l = l.size - l.done

use Rattle.lazyset_file_commands.proofs.list.read_list.Given as goal
use Rattle.std.{proofs.Common.{◌≡◌, ◌<◌, length}, specs.Prelude.{IfSome}}
use Rattle.lazyset_file_commands.{specs.ListParts.{IsOpenList}, proofs.ListPieces.{IsLeftOf}}

abbrev pub invariant-pieces : goal.invariant-pieces
invariant-pieces g l = record {
  kept : IsOpenList l.list;
  like : (l.list.format ≡ l.fn.format) × (l.list.lines ≡ l.fn.lines);
  room : 0 < length l.piece;
  read : IfSome (g.R.Read.remaining l.initial.reader) (IsLeftOf l.list (g.R.Read.remaining l.reader));
}

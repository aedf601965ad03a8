use Rattle.lazyset_file_commands.proofs.again.first_again.Given as goal
use Rattle.std.{proofs.Common.{Some, map, take}, specs.{List.{IsDistinct}, Prelude.{nat_eq}}}
use Rattle.lz_judge.specs.Places.{IsTable}

abbrev pub invariant-loop-index : goal.invariant-loop-index
invariant-loop-index l = record {
  apart : IsDistinct nat_eq (take l.index l.keys);
  table : IsTable (map Some (take l.index l.keys)) l.above;
}

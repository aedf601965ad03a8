use Rattle.lz_judge.proofs.history.History.read.Given as goal
use Rattle.std.proofs.Common.{◌+◌, ◌≤◌, length}
use Rattle.lz_judge.specs.{Readers.{IsReader, seen_by}, TextsRead.{HasRead}}

abbrev pub invariant-loop-end : goal.invariant-loop-end
invariant-loop-end l =
    record {
      reader : IsReader l.reader;
      so_far : HasRead l.line l.text l.rest (seen_by l.reader);
      within : length l.rest ≤ length l.text;
      bytes : length l.text ≤ length l.rest + 4194304;
      line : 1 ≤ l.line;
    }

abbrev pub decreases-loop-end : goal.decreases-loop-end
decreases-loop-end l = length l.rest

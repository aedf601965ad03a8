use Rattle.lz_judge.proofs.surveying.survey_slots.Given as goal
use Rattle.std.{proofs.Common.{◌≡◌, ◌-◌, ◌≤◌, ℕ, List, Option, length}, specs.Io.KnownBytes.{Consumes}}
use Rattle.lz_judge.{specs.Scans.{BeginsWith}, proofs.Surveys.PieceReads.{HasRead}}

abbrev pub invariant-loop-done : goal.invariant-loop-done
invariant-loop-done g l = record {
  range : l.done ≤ l.header.slots;
  room : length l.piece ≡ 16384;
  read : (input : Option (List ℕ)) (head : List ℕ) → BeginsWith l.header head → length head ≡ 16 → Consumes input (g.R.Read.remaining l.initial.reader) head
      → HasRead l.header input (g.R.Read.remaining l.reader) l.done l.scan;
}

abbrev pub decreases-loop-done : goal.decreases-loop-done
decreases-loop-done g l = l.header.slots - l.done

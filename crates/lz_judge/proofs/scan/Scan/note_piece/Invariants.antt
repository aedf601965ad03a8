use Rattle.lz_judge.proofs.scan.Scan.note_piece.Given as goal
use Rattle.std.proofs.Common.{◌≡◌, ◌+◌, List, ℕ}
use Rattle.lz_slot.specs.Bytes.{format_of, slot_at}
use Rattle.lz_judge.specs.Scans.{IsPieceAt, Scanned}

abbrev pub invariant-loop-index : goal.invariant-loop-index
invariant-loop-index l = (t : List ℕ) → l.format ≡ format_of t → IsPieceAt t l.first l.piece → Scanned (slot_at t) l.first l.initial.self → Scanned (slot_at t) (l.first + l.index) l.self

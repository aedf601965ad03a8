use Rattle.lazyset_file_commands.proofs.torn.torn_slots_among.Given as goal
use Rattle.std.proofs.Common.{◌≡◌, ◌+◌, ◌≤◌, ℕ, List}
use Rattle.lz_slot.specs.{Bytes.{format_of, slot_at}, declared.format.Format.TheVariants.{Four}}
use Rattle.lz_judge.specs.Scans.{IsPieceAt}
use Rattle.lazyset_file_commands.specs.Torn.{torn_below}

abbrev pub invariant-loop-index : goal.invariant-loop-index
invariant-loop-index l = record {
  bound : l.count ≤ l.index;
  torn : (t : List ℕ) (first : ℕ) → format_of t ≡ Four → IsPieceAt t first l.piece → torn_below (slot_at t) (first + l.index) ≡ torn_below (slot_at t) first + l.count;
}

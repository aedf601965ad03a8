use Rattle.lazyset_set_commands.proofs.found.Found.with_piece.Given as goal
use Rattle.std.proofs.Common.{◌≡◌, ◌+◌, ℕ}
use Rattle.lz_slot.specs.declared.slot.SlotRead.{SlotRead}
use Rattle.lz_vault.specs.Scans.{SaysPiece}
use Rattle.lazyset_set_commands.specs.Founds.{found_below}

abbrev pub invariant-loop-index : goal.invariant-loop-index
invariant-loop-index l = record { found : (says : ℕ → SlotRead) (n : ℕ) → SaysPiece l.format says n l.piece → l.initial.found ≡ found_below l.own says n → l.found ≡ found_below l.own says (n + l.index) }

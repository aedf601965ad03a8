use Rattle.lazyset_file_commands.proofs.torn.torn_slots_behind.Given as goal
use Rattle.std.{proofs.Common.{◌≡◌, ◌-◌, ◌≤◌, ℕ, List, Option, length}, specs.Io.KnownBytes.{Consumes}}
use Rattle.lz_slot.specs.{Bytes.{format_of}, declared.format.Format.TheVariants.{Four}}
use Rattle.lazyset_file_commands.proofs.TornSlots.{HasCounted}

abbrev pub invariant-loop-done : goal.invariant-loop-done
invariant-loop-done g l = record {
  range : l.done ≤ l.slots;
  room : length l.piece ≡ 16384;
  bound : l.count ≤ l.done;
  read : (input : Option (List ℕ)) (head : List ℕ) → length head ≡ 16 → format_of head ≡ Four → Consumes input (g.R.Read.remaining l.initial.reader) head
      → HasCounted head input (g.R.Read.remaining l.reader) l.done l.count;
}

abbrev pub decreases-loop-done : goal.decreases-loop-done
decreases-loop-done g l = l.slots - l.done

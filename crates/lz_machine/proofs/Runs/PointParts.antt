-- A point, by its parts.
use Rattle.std.proofs.Common.{ℕ}
use Rattle.lz_slot.specs.Histories.{History}
use Rattle.lz_list.specs.Traces.{Trace}
use Rattle.lz_machine.specs.Runs.{State, Point}

abbrev pub point : State → History → Trace → ℕ → Point
point w M P calls = record { state = w; marks = M; trace = P; calls = calls }

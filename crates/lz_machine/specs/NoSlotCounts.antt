-- What an adding tells that finds no slot.
use Rattle.std.specs.Prelude.{◌≡◌, ◌+◌, ℕ}
use Rattle.lz_slot.specs.Histories.{History}
use Rattle.lz_disk.specs.Images.{Medium}
use Rattle.lz_allot.specs.declared.counts.Counts.{Counts}
use Rattle.lz_list.specs.Traces.{Trace}
use Rattle.lz_machine.specs.{declared.event.{Event.TheVariants.{Reserve}, Outcome.TheVariants.{NoSlot}}, Runs.{Start, Service, Up, Reached}, Table.{line}}

-- Where a slot is asked for and none is found, none is free, and the counts that are told sum to the number of slots.
abbrev pub CountsAreRight : Type 0
CountsAreRight =
    (start : Start) (service : Service) (disk : Medium) (M : History) (P : Trace) (a : ℕ) (counts : Counts)
    → Reached start (Up service disk) M P → (line service.yard a Reserve).1 ≡ NoSlot counts
    → (counts.free ≡ 0) × (counts.free + counts.taken + counts.limbo ≡ service.yard.shape.slots)

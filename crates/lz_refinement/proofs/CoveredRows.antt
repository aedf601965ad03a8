-- Worked rows: when a Sync spares the device.
use Rattle.std.proofs.Common.{false, [], ◌∷◌, refl, arith}
use Rattle.lz_slot.specs.declared.format.Format.TheVariants.{One}
use Rattle.lz_refinement.{proofs.Vocabulary.{Device, Stage, Yard}, specs.{Held.{SparesDevice}, Moments.{no_device}}}
use Rattle.lz_vault.specs.declared.vault.Stage.TheVariants.{KeyLoose, Keyed}
use Rattle.lz_machine.specs.declared.event.{Event.TheVariants.{Sync, WriteOpen}, Outcome.TheVariants.{Done, Fault}}

-- a yard of one slot, at this stage
abbrev pub yard_at : Stage → Yard
yard_at stage =
    record {
      shape = record { slots = 1; buckets = 1; passes = 1 };
      words = record { heads = []; links = []; keys = []; pins = []; halt = 0 };
      locks = record { heads = []; nodes = [] };
      vault = record { format = One; cells = record { stage = stage; key = 9 } ∷ []; syncs = 0; dead = false };
      uses = [];
      actors = [];
    }

abbrev called : Device
called = record no_device { calls = 1 }

covered_fails : SparesDevice (yard_at Keyed) (Sync 0) Fault no_device no_device → ⊥
covered_fails h = (h 0 refl refl).0 refl

covered_calls : SparesDevice (yard_at Keyed) (Sync 0) Done no_device called → ⊥
covered_calls h = let calls = (h 0 refl refl).1.calls in omega (arith, calls)

-- nothing is said of a slot that isn't covered
uncovered_fails : SparesDevice (yard_at KeyLoose) (Sync 0) Fault no_device called
uncovered_fails = λ slot is sure. cc

-- nor of a write
write_fails : SparesDevice (yard_at Keyed) WriteOpen Fault no_device called
write_fails = λ slot is sure. absurd cc

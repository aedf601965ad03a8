-- What the yard keeps: the state that events change.
use Rattle.lz_slot.specs.declared.slot.SlotRead.TheVariants as read
use Rattle.std.specs.Prelude.{◌≡◌, ◌%◌, ℕ, zero, suc, false, List, [], ◌∷◌, ◌++◌, map, replicate, slice_index_or, None}
use Rattle.lz_slot.specs.{declared.slot.SlotRead.{SlotRead, TheVariants.{Member}}, Bytes.{format_of, slot_at, held}, Counted.{of_pass}}
use Rattle.lz_vault.specs.{declared.vault.Stage.{Stage, TheVariants.{Torn, Open}}, Stages.{Cell}, Vaults.{Vaulted}, Members.{no_cell}}
use Rattle.lz_allot.specs.Uses.{Use, Free, Taken}
use Rattle.lz_list.specs.{declared.place.Place.TheVariants.{Bucket}, Words.{Words}, Locks.{NodeLocks}, Traces.{words_of_trace, opening, Trace}}
use Rattle.lz_machine.specs.declared.actor.{Actor.{Actor}, LockPhase.TheVariants.{Nothing}}

pub record Shape : Type 0 where
  pub slots : ℕ
  pub buckets : ℕ
  pub passes : ℕ

abbrev pub idle_actor : Actor
idle_actor = record { slot = None; hold = Nothing; pred = Bucket 0; curr = None; refused = false }

pub record Yard : Type 0 where
  pub shape : Shape
  pub words : Words
  pub locks : NodeLocks
  pub vault : Vaulted
  pub uses : List Use
  pub actors : List Actor

-- actors count from 1, as their passes do
abbrev pub actor_at : Yard → ℕ → Actor
actor_at y a = of_pass y.actors a idle_actor

abbrev pub cell_at : Yard → ℕ → Cell
cell_at y s = slice_index_or y.vault.cells s no_cell

-- what an actor has in hand, a slot's cell, a pass's pin word
abbrev pub actor_in : List Actor → ℕ → Actor
actor_in actors a = of_pass actors a idle_actor

abbrev pub cell_in : List Cell → ℕ → Cell
cell_in cells s = slice_index_or cells s no_cell

abbrev pub stage_in : List Cell → ℕ → Stage
stage_in cells s = (cell_in cells s).stage

abbrev pub pin_in : List ℕ → ℕ → ℕ
pin_in pins a = of_pass pins a 0

-- a pin word of a pass that is inside
abbrev pub IsInside : ℕ → Type 0
IsInside pin = pin % 2 ≡ 1

-- a slot as an open finds it
abbrev pub cell_read : SlotRead → Cell
cell_read (Member k) = record { stage = Open; key = k }
cell_read read.Torn = record { stage = Torn; key = 0 }
cell_read _ = no_cell

abbrev pub use_read : SlotRead → Use
use_read (Member k) = Taken
use_read _ = Free

-- the first n slots of a text
abbrev pub slots_read : List ℕ → ℕ → List SlotRead
slots_read t zero = []
slots_read t (suc n) = slots_read t n ++ slot_at t n ∷ []

-- the trace with which a life begins
abbrev pub first_trace : Shape → List ℕ → Trace
first_trace shape t = opening shape.buckets (held t shape.slots)

-- The yard of an open that read this text. The open's own sync isn't one of the life's syncs.
abbrev pub opened_yard : Shape → List ℕ → Yard
opened_yard shape t =
    record {
      shape = shape;
      words = words_of_trace shape.slots shape.buckets shape.passes (first_trace shape t);
      locks = record { heads = replicate shape.buckets 0; nodes = replicate shape.slots 0 };
      vault = record { format = format_of t; cells = map cell_read (slots_read t shape.slots); syncs = 0; dead = false };
      uses = map use_read (slots_read t shape.slots);
      actors = replicate shape.passes idle_actor;
    }

-- Events of one actor alone that open no gate, retire no slot and give none back.
use Rattle.std.proofs.{lemmas.Bool.Decides.{nat_tests}, Common.{◌≡◌, ℕ, Bool, true, false, Option, arith}}
use mathlib.Core.Bool.{false≢true}
use Rattle.lz_slot.specs.declared.command.Command.{Command}
use Rattle.lz_list.specs.{Words.{Words}, Traces.{Trace}}
use Rattle.lz_machine.specs.declared.{event.Event.{Event}, caller.{Sequence.{Sequence, TheVariants.{Adding, Removing}}, Progress.TheVariants.{Playing}}}
use Rattle.lz_machine.specs.{Yards.{Yard}, Calls.{event_of, loaded, goes_on}, CallersSound.{View, ReliesOn}}
use Rattle.lz_machine.proofs.Alone.{Frame.{is_use_event, is_opening_event}, Full.{WalkStands, AddsTo}}

-- what a sequence leads to
pub sequence_goes : (y : Yard) (Q : Trace) (v : View) (c : Command) (sequence : Sequence) (i : ℕ) (P0 P : Trace) (changed : Option ℕ) → ReliesOn v c sequence i P0 P changed → WalkStands y Q (goes_on sequence) c
sequence_goes y Q v c sequence i P0 P changed h = grind arith

-- an event that opens no gate, retires no slot and gives none back
abbrev pub IsCalm : Event → Type 0
IsCalm e = (is_opening_event e ≡ false) × (is_use_event e ≡ false)

abbrev pub is_calm_sequence : Sequence → Bool
is_calm_sequence (Adding s) = false
is_calm_sequence (Removing s) = false
is_calm_sequence _ = true

pub calm_sequence : (w : Words) (c : Command) (sequence : Sequence) (i : ℕ) → is_calm_sequence sequence ≡ true → IsCalm (loaded w (event_of c sequence i))
calm_sequence w c sequence i calm = grind arith

pub calm_adds : (sequence : Sequence) (i s : ℕ) → is_calm_sequence sequence ≡ true → AddsTo (Playing sequence i) s → ⊥
calm_adds sequence i s calm adds = grind (arith, nat_tests, false≢true)

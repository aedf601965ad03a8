-- What the steps of a rehearsal do.
use Rattle.std.specs.Prelude.{◌≡◌, ◌≢◌, ◌⊎◌, ℕ, Option, None, Some, List, []}
use Rattle.lz_slot.specs.declared.history.HistoryEvent.{HistoryEvent}
use Rattle.lz_machine.specs.declared.{event.Outcome.TheVariants.{Busy}, kind.Kind.{Kind}}
use Rattle.lz_core.specs.{declared.{play.Step.{Step as PlayStep}, world.Turned.{Turned}}, Worlds.{WorldOver}}
use Rattle.lz_rehearsal.specs.{declared.line.Line.{Line}, Rehearsals.{Does, IsStep, Turns}, Tellings.{busy_text, mark_line}}

-- a line was played, and this is its text
abbrev pub PlaysLine : WorldOver → Line → List ℕ → WorldOver → Type 0
PlaysLine old line text new = (seen : List HistoryEvent) × Does old line seen text new

-- a step was played, and this is its text
abbrev pub PlaysStep : WorldOver → PlayStep → List ℕ → WorldOver → Type 0
PlaysStep old play text new = (seen : List HistoryEvent) × IsStep old play seen text new

-- turns were taken, and this is their text
abbrev pub TakesTurns : ℕ → Option Kind → ℕ → WorldOver → List ℕ → WorldOver → Type 0
TakesTurns a awaited most old text new = (seen : List HistoryEvent) × Turns a awaited most old seen text new

-- a turn is the last of its line, which has this text
abbrev pub EndsTurns : ℕ → Option Kind → Turned → List ℕ → Type 0
EndsTurns a awaited turned text =
    ((mark : HistoryEvent) × (turned.mark ≡ Some mark) × (text ≡ mark_line mark))
    ⊎ ((turned.mark ≡ None) × (turned.outcome ≡ Busy) × (text ≡ busy_text a))
    ⊎ ((turned.mark ≡ None) × (turned.outcome ≢ Busy) × (awaited ≡ Some turned.kind) × (text ≡ []))

-- a turn is not the last of its line, unless there may be no more
abbrev pub GoesOn : Option Kind → Turned → Type 0
GoesOn awaited turned = (turned.mark ≡ None) × (turned.outcome ≢ Busy) × (awaited ≢ Some turned.kind)

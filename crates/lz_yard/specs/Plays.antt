-- An event that is played by the parts of a yard: what that needs, and what it leaves.
use Rattle.std.specs.Prelude.{◌≡◌, ℕ, Result}
use Rattle.lz_disk.specs.Devices.{Device}
use Rattle.lz_vault.specs.{Vaults.{NoCall, Succeeds}, declared.vault.VaultFault.{VaultFault}}
use Rattle.lz_machine.specs.{declared.{event.{Event.{Event}, Outcome.{Outcome}}, course.Course.{Course, TheVariants.{Plays}}}, Ready.{IsReady}}
use Rattle.lz_yard.specs.Parts.{PartsOver, PartsFit, Known, Does}

-- The parts may play this event of an actor: they fit, the event is ready and its course is to be played, and a device that
-- is not called stays as it is.
pub record MayBePlayed {D : Type 0} (device : D → Device) (parts : PartsOver D) (a : ℕ) (e : Event) : Type 0 where
  pub fits : PartsFit parts.yard parts.rows
  pub ready : IsReady parts.yard a e
  pub known : Known Plays parts.yard a e
  pub quiet : Succeeds NoCall (device parts.disk) (device parts.disk)

-- They played it: the yard and the device are as the event leaves them, and the uses know as many passes.
pub record IsPlayed {D : Type 0} (device : D → Device) (old new : PartsOver D) (a : ℕ) (e : Event) (result : Result Outcome VaultFault) : Type 0 where
  pub done : Does old.yard a e result new.yard (device old.disk) (device new.disk)
  pub rows : new.rows ≡ old.rows

-- what holds where the course is that the event is played
abbrev pub IfPlays : Course → Type 0 → Type 0
IfPlays Plays P = P
IfPlays course P = Unit {0}

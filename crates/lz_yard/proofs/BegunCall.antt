-- A call begins as the file's format says.
use Rattle.std.proofs.Common.{◌≡◌, Bool, true, false, if◌then◌else◌, refl}
use Rattle.lz_machine.specs.declared.event.{Outcome.TheVariants.{Done, OldFile}, Reply.TheVariants.{OldFile as SaysOldFile}}
use Rattle.lz_machine.specs.{declared.caller.Progress.TheVariants.{Answering}, Calls.{first_progress}}
use Rattle.lz_yard.specs.Begun.{begun_after}

pub begins : (refused : Bool) → (if refused then Answering SaysOldFile else first_progress) ≡ begun_after (if refused then OldFile else Done)
begins true = refl
begins false = refl

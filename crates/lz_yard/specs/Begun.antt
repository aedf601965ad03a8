-- A call that was just made.
use Rattle.lz_machine.specs.declared.{event.{Outcome.{Outcome, TheVariants.{OldFile}}, Reply.TheVariants.{OldFile as SaysOldFile}}, caller.Progress.{Progress}}
use Rattle.lz_machine.specs.{declared.caller.Progress.TheVariants.{Answering}, Calls.{first_progress}}

-- where a call begins, whose Invoke answered so
abbrev pub begun_after : Outcome → Progress
begun_after OldFile = Answering SaysOldFile
begun_after _ = first_progress

-- How a command of the program ends: the status of each end and of each fault.
use Rattle.lz_proto.specs.declared.end.End.TheVariants as ends
use Rattle.lz_rehearsal.specs.declared.rehearsal.RehearsalFault.TheVariants as rehearsal
use Rattle.lz_vault.specs.declared.making.MakeFault.TheVariants as making
use Rattle.lz_vault.specs.declared.opening.OpenFault.TheVariants as opening
use Rattle.std.specs.Prelude.{ℕ, Result, Ok, Err}
use Rattle.lz_proto.specs.declared.{end.End.{End}, fault.SessionFault.{SessionFault}}
use Rattle.lz_rehearsal.specs.declared.rehearsal.RehearsalFault.{RehearsalFault}
use Rattle.lz_vault.specs.declared.{making.MakeFault.{MakeFault}, opening.OpenFault.{OpenFault}}
use Rattle.lazyset_file_commands.specs.declared.status.Status.{Status, TheVariants.{Done, Failed, CommandLine, Refused, Damaged}}

-- the exit status of the process
abbrev pub status_code : Status → ℕ
status_code Done = 0
status_code Failed = 1
status_code CommandLine = 2
status_code Refused = 3
status_code Damaged = 4

-- how a run ends after its session
abbrev pub session_status : Result End SessionFault → Status
session_status (Ok ends.Done) = Done
session_status (Ok ends.Quit) = Done
session_status (Ok ends.Halted) = Failed
session_status (Err fault) = Failed

-- how it ends after a refused open, where that could be told
abbrev pub open_status : OpenFault → Status
open_status opening.Device = Failed
open_status opening.Memory = Failed
open_status fault = Refused

-- how a making ends that made no file, where that could be told
abbrev pub make_status : MakeFault → Status
make_status making.Device = Failed
make_status fault = Refused

-- how a rehearsal ends before its script did, where that could be told
abbrev pub rehearsal_status : RehearsalFault → Status
rehearsal_status (rehearsal.Line number) = Refused
rehearsal_status rehearsal.Write = Failed
rehearsal_status rehearsal.Memory = Failed

use Rattle.lazyset_file_commands.proofs.growing.fault_of_new.Goals as goal
use Rattle.std.proofs.Common.{sym}
use Rattle.lazyset_file_commands.proofs.Grown.{told_of_new}

pub returns-in_default : goal.returns-in_default
returns-in_default c = sym (told_of_new c.args.fault c.in_default.not-Memory)

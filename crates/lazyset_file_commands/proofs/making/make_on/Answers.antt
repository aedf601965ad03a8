use Rattle.lazyset_file_commands.proofs.making.make_on.Goals as goal
use Rattle.std.proofs.Common.{inl, inr}

pub returns-in-Ok-clause-made : goal.returns-in-Ok-clause-made
returns-in-Ok-clause-made g c = inl (record { fresh = c.in-Ok.ensures.filled; told = c.tell_made.ensures })

pub returns-in-Err-clause-made : goal.returns-in-Err-clause-made
returns-in-Err-clause-made g c = inr (record { fault = c.in-Err.fault; why = c.in-Err.ensures.refused; told = c.tell_fault.ensures })

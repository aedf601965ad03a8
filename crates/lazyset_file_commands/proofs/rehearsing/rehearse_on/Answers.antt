use Rattle.lazyset_file_commands.proofs.rehearsing.rehearse_on.Goals as goal
use Rattle.std.proofs.Common.{inr}

pub returns-in-Err-Memory-clause-told : goal.returns-in-Err-Memory-clause-told
returns-in-Err-Memory-clause-told g c = inr (inr (inr c.tell-in-Err-Memory.ensures.tells))

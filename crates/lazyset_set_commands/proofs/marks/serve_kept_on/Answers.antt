use Rattle.lazyset_set_commands.proofs.marks.serve_kept_on.Goals as goal
use Rattle.std.proofs.Common.{inr}

pub returns-in-Err : goal.returns-in-Err
returns-in-Err g c = inr c.in-Err.ensures.err

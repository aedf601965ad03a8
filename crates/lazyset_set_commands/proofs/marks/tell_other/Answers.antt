use Rattle.lazyset_set_commands.proofs.marks.tell_other.Goals as goal
use Rattle.std.proofs.Common.{inl, inr}

pub returns-in-Err : goal.returns-in-Err
returns-in-Err g c = inr (record { fault = c.in-Err.fault; refused = c.in-Err.ensures.err; told = c.refuse.ensures.told })

pub returns : goal.returns
returns g c = inl (c.tell.ensures.tells, c.read_members.ensures.reads, λ honest. let held = c.in-Ok.ensures.held honest in (held.0, _, held.1))

use Rattle.lazyset_file_commands.proofs.rehearsing.rehearse_lines.Goals as goal
use Rattle.std.proofs.Common.{inl, inr}

pub returns-in-Ok : goal.returns-in-Ok
returns-in-Ok g c = inl (c.rehearse_world.ensures _ _ c.in-Ok.ensures)

pub returns-in-Err : goal.returns-in-Err
returns-in-Err g c = inr c.tell.ensures.tells

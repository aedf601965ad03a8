use Rattle.lazyset_file_commands.proofs.copying.tell_scan_fault.Goals as goal

pub returns-in-Memory : goal.returns-in-Memory
returns-in-Memory g c = rw c.in-Memory.is c.tell-in-Memory.ensures.tells

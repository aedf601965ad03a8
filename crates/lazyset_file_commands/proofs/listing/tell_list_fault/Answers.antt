use Rattle.lazyset_file_commands.proofs.listing.tell_list_fault.Goals as goal

pub returns-in-Memory : goal.returns-in-Memory
returns-in-Memory g c = rw c.in-Memory.is c.tell-in-Memory.ensures.tells

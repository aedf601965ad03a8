use Rattle.lazyset_file_commands.proofs.renewing.send_fault.Goals as goal

pub returns-in-New : goal.returns-in-New
returns-in-New g c = rw c.in-New.is c.send_new.ensures

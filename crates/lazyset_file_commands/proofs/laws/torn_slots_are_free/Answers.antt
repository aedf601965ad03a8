use Rattle.lazyset_file_commands.proofs.TornFree as proved
use Rattle.lazyset_file_commands.proofs.laws.torn_slots_are_free.Goals as goal

pub returns : goal.returns
returns c = proved.torn_are_free

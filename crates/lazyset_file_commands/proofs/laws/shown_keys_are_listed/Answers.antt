use Rattle.lazyset_file_commands.proofs.ShownLists as proved
use Rattle.lazyset_file_commands.proofs.laws.shown_keys_are_listed.Goals as goal

pub returns : goal.returns
returns c = proved.shown_keys_are_listed

use Rattle.lazyset_file_commands.proofs.ShownCounts as proved
use Rattle.lazyset_file_commands.proofs.laws.counts_are_of_set.Goals as goal

pub returns : goal.returns
returns c = proved.counts_are_of_set

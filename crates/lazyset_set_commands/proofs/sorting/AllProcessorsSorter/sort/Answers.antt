use Rattle.lazyset_set_commands.proofs.sorting.AllProcessorsSorter.sort.Goals as goal
use Rattle.lz_vault.proofs.Members.{sorted_in_order}

pub returns-clause-sorted : goal.returns-clause-sorted
returns-clause-sorted g c = sorted_in_order _ c.par_sort_unstable.ensures.sorted

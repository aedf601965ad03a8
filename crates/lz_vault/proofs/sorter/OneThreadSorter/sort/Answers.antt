use Rattle.lz_vault.proofs.sorter.OneThreadSorter.sort.Goals as goal
use Rattle.lz_vault.proofs.Members.{sorted_in_order}

pub returns-clause-sorted : goal.returns-clause-sorted
returns-clause-sorted c = sorted_in_order _ c.sort_unstable.ensures.sorted

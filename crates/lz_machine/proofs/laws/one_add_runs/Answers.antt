use Rattle.lz_machine.proofs.laws.one_add_runs.Goals as goal
use Rattle.lz_machine.proofs.Theorem.OneAdd.{one_add_runs}

pub returns : goal.returns
returns c = one_add_runs

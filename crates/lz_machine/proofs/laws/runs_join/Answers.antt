use Rattle.lz_machine.proofs.laws.runs_join.Goals as goal
use Rattle.lz_machine.proofs.Theorem.JoinedRuns.{runs_join}

pub returns : goal.returns
returns c = runs_join

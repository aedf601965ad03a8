use Rattle.lz_judge.proofs.laws.one_verdict.Goals as goal
use Rattle.lz_judge.proofs.OneSet.{one_verdict}

pub returns : goal.returns
returns c = one_verdict

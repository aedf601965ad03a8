use Rattle.lz_machine.proofs.laws.calls_stand.Goals as goal
use Rattle.lz_machine.proofs.Theorem.TraceOutside.{calls_stand}

pub returns : goal.returns
returns c = calls_stand

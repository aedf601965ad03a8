use Rattle.lz_machine.proofs.laws.never_late.Goals as goal
use Rattle.lz_machine.proofs.Theorem.Timeliness.{never_late}

pub returns : goal.returns
returns c = never_late

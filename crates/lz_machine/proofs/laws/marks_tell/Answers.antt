use Rattle.lz_machine.proofs.laws.marks_tell.Goals as goal
use Rattle.lz_machine.proofs.Theorem.Marks.{marks_tell}

pub returns : goal.returns
returns c start w M P reached = marks_tell start w M P reached

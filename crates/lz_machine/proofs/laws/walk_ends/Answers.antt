use Rattle.lz_machine.proofs.laws.walk_ends.Goals as goal
use Rattle.lz_machine.proofs.Theorem.WalkEnds.{walk_ends}

pub returns : goal.returns
returns c = walk_ends

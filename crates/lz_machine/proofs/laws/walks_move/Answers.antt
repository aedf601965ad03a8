use Rattle.lz_machine.proofs.laws.walks_move.Goals as goal
use Rattle.lz_machine.proofs.Theorem.Reached.{walks_move}

pub returns : goal.returns
returns c = walks_move

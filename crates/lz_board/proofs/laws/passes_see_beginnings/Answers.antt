use Rattle.lz_board.proofs.laws.passes_see_beginnings.Goals as goal
use Rattle.lz_board.proofs.Upkeep.Reuse.{passes_see_beginnings}

pub returns : goal.returns
returns c = passes_see_beginnings

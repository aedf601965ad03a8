use Rattle.lz_board.proofs.laws.words_follow_the_trace.Goals as goal
use Rattle.lz_board.proofs.Upkeep.Reuse.{words_follow_the_trace}

pub returns : goal.returns
returns c = words_follow_the_trace

use Rattle.lz_refinement.proofs.history.answers_are_told.Goals as goal
use Rattle.lz_refinement.proofs.Marks.ToldCalls.{answers_told}

pub returns : goal.returns
returns c = answers_told

use Rattle.lz_refinement.proofs.laws.session_is_held.Goals as goal
use Rattle.lz_refinement.proofs.Sessions.SessionEnd.{session_is_held as session_is_held_law}

pub returns : goal.returns
returns c = session_is_held_law

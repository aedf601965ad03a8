use Rattle.lz_refinement.proofs.laws.session_is_plain.Goals as goal
use Rattle.lz_refinement.proofs.Sessions.SessionEnd.{session_is_plain as session_is_plain_law}

pub returns : goal.returns
returns c = session_is_plain_law

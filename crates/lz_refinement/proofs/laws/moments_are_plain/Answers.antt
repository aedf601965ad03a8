use Rattle.lz_refinement.proofs.laws.moments_are_plain.Goals as goal
use Rattle.lz_refinement.proofs.Sessions.SessionMoments.{moments_are_plain as moments_are_plain_law}

pub returns : goal.returns
returns c = moments_are_plain_law

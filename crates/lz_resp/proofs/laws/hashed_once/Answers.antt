use Rattle.lz_resp.proofs.laws.hashed_once.Goals as goal
use Rattle.lz_resp.proofs.Hashed.{hashed_once}

pub returns : goal.returns
returns c = hashed_once

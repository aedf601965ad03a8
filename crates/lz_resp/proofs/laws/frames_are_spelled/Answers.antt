use Rattle.lz_resp.proofs.laws.frames_are_spelled.Goals as goal
use Rattle.lz_resp.proofs.Spellings.{frames_are_spelled}

pub returns : goal.returns
returns c = frames_are_spelled

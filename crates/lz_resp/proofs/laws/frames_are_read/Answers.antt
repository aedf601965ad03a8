use Rattle.lz_resp.proofs.laws.frames_are_read.Goals as goal
use Rattle.lz_resp.proofs.Spellings.{frames_are_read}

pub returns : goal.returns
returns c = frames_are_read

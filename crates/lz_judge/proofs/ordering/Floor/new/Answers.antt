use Rattle.lz_judge.proofs.ordering.Floor.new.Goals as goal
use Rattle.lz_judge.proofs.Readings.CallFloor.{floored_none}

pub returns : goal.returns
returns c = λ places. floored_none places c.new.result c.new.ensures.empty

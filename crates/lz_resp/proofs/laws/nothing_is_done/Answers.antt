use Rattle.lz_resp.proofs.laws.nothing_is_done.Goals as goal
use Rattle.lz_resp.proofs.InTransactions.{nothing_is_done}

pub returns : goal.returns
returns c = nothing_is_done

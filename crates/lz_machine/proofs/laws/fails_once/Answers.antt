use Rattle.lz_machine.proofs.laws.fails_once.Goals as goal
use Rattle.lz_machine.proofs.Theorem.DeviceFailures.{fails_once}

pub returns : goal.returns
returns c start steps runs = fails_once start steps runs

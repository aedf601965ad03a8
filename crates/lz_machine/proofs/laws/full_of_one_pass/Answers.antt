use Rattle.lz_machine.proofs.laws.full_of_one_pass.Goals as goal
use Rattle.lz_machine.proofs.Alone.FullSet.{full_of_one_pass}

pub returns : goal.returns
returns c = full_of_one_pass

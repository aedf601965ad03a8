use Rattle.lz_machine.proofs.laws.full_is_right.Goals as goal
use Rattle.lz_machine.proofs.Alone.Room.{full_is_right}

pub returns : goal.returns
returns c = full_is_right

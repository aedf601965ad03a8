use Rattle.lz_machine.proofs.laws.formats_stay.Goals as goal
use Rattle.lz_machine.proofs.Theorem.Formats.{formats_stay}

pub returns : goal.returns
returns c = formats_stay

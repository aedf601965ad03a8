use Rattle.lz_machine.proofs.laws.leaves_text.Goals as goal
use Rattle.lz_machine.proofs.Theorem.OneAdd.{leaves_text}

pub returns : goal.returns
returns c = leaves_text

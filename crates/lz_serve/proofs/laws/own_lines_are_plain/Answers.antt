use Rattle.lz_serve.proofs.laws.own_lines_are_plain.Goals as goal
use Rattle.lz_serve.proofs.OwnLines.{own_lines}

pub returns : goal.returns
returns c = own_lines

use Rattle.lz_serve.proofs.answering.meet.Goals as goal
use Rattle.lz_list.proofs.Traces.Absence.{begins_itself}
use Rattle.lz_board.specs.Seats.{part}

pub returns-in_default-clause-grows : goal.returns-in_default-clause-grows
returns-in_default-clause-grows g c = begins_itself (part c.args.asking.now.pass).known

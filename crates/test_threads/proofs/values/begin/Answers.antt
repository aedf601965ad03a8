use Rattle.test_threads.proofs.values.begin.Goals as goal
use Rattle.lz_board.specs.Seats.{part}

pub returns : goal.returns
returns g c = (c.begin-call.ensures.pass, (c.args.command, g.N.Named.format, part c.args.pass, c.begin-call.ensures.counts))

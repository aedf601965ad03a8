use Rattle.lz_serve.proofs.laws.lines_are_sessions.Goals as goal
use Rattle.lz_serve.proofs.LineSessions.{lines_are_sessions}

pub returns : goal.returns
returns g c = lines_are_sessions g.S.Stream.listed

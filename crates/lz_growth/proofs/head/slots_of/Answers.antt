use Rattle.lz_growth.proofs.head.slots_of.Goals as goal
use Rattle.lz_growth.proofs.HeadTexts.{told_number}

pub returns-clause-taken : goal.returns-clause-taken
returns-clause-taken g c = λ honest other n some few grows.
    let seen = (g.D.Disk.device c.args.disk.now).medium.seen in
    told_number seen c.told.result (c.told.ensures.told seen (c.in-Ok.ensures.size honest) (c.in-Ok.ensures.head honest)) c.told.ensures.count other n some few grows

use Rattle.lz_yard.proofs.yard.Yard.step.Goals as goal
use Rattle.std.proofs.Common.{refl, rules}
use Rattle.lz_yard.{specs.Parts.{Does}, proofs.{Events.{KeptFit.{fits_dead, word_stays}, PlayedLine.{played_err, played_ok}}, yard.Yard.step.Given.{Over}}}
use Rattle.lz_yard.proofs.yard.Yard.step.Goals.{In-Ok}

pub course-requires-clause-may : goal.course-requires-clause-may
course-requires-clause-may g c = rw (← c.self.view_is) at c.requires.may

pub invariant_of-self : goal.invariant_of-self
invariant_of-self g c = fits_dead _ _ c.self.invariant _ _ c.die.ensures.rows c.die.ensures.yard

-- whichever line was played, it was done
done : (g : Over) (c : In-Ok g) → Does c.self.inside.parts.yard c.args.actor c.args.event c.match-played.done c.match-played.self.yard (g.D.Disk.device c.self.inside.parts.disk) (g.D.Disk.device c.match-played.self.disk)
done g c = search rules

pub returns-in-Ok-clause-word : goal.returns-in-Ok-clause-word
returns-in-Ok-clause-word g c = word_stays _ c.args.actor c.args.event c.in-Ok.outcome _ c.tell-told.result _ _ (rw c.in-Ok.is at (done g c)) c.tell-told.ensures

pub returns-in-Ok-clause-played : goal.returns-in-Ok-clause-played
returns-in-Ok-clause-played g c =
    rw (← c.self.view_is) (played_ok _ c.args.actor c.args.event c.in-Ok.outcome _ c.tell-told.result _ _ c.in-Plays.ensures.known (rw c.in-Ok.is at (done g c)) c.tell-told.ensures)

pub returns-in-Err-clause-played : goal.returns-in-Err-clause-played
returns-in-Err-clause-played g c =
    let failed : Does c.self.inside.parts.yard c.args.actor c.args.event c.match-played.done c.match-played.self.yard (g.D.Disk.device c.self.inside.parts.disk) (g.D.Disk.device c.match-played.self.disk) = search rules in
    rw (← c.self.view_is, c.untold-in-Err.ensures) (played_err _ c.args.actor c.args.event c.in-Err.field-0 _ _ _ _ c.in-Plays.ensures.known (rw c.in-Err.is at failed) refl)

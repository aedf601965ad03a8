use Rattle.lz_yard.proofs.parts.Parts.course.Goals as goal
use Rattle.std.proofs.Common.{rules}
use Rattle.lz_machine.{proofs.Runs.Course.{course_rules}, specs.declared.course.Course.TheVariants.{Plays}}
use Rattle.lz_yard.{specs.Parts.{Known}, proofs.Events.KeptFit.{is_ready}}

pub returns-in_default-clause-plays : goal.returns-in_default-clause-plays
returns-in_default-clause-plays g c =
    let known : Known Plays c.args.self.now.yard c.args.actor c.args.event = search (rules, course_rules) in
    record {
      fits = c.requires.fits;
      ready = is_ready _ _ _ _ c.args.actor c.args.event c.requires.fits c.requires.actor c.requires.event c.requires.may known;
      known = known;
      quiet = c.is_dead.ensures.quiet;
    }

use Rattle.lz_serve.proofs.asking.Asking.go_on.Goals as goal
use Rattle.std.proofs.Common.{subst}
use Rattle.lz_machine.specs.declared.kind.Kind.TheVariants.{Sync}
use Rattle.lz_board.specs.Seats.{part}
use Rattle.lz_set.{specs.Stages.{StepsUnfailed, kind_of_failed}, proofs.Plays.{so_unfailed, without_then}}
use Rattle.lz_serve.specs.Askings.{Asked}

pub returns-clause-steps : goal.returns-clause-steps
returns-clause-steps g c =
    let new = part c.go_on-stage.new.pass in
    let begun = part c.begin_once.new.pass in
    subst (λ (a : Asked). StepsUnfailed Sync (part a.pass) new) c.self.view_is
    (without_then kind_of_failed Sync (part c.self.inside.pass) begun new (so_unfailed Sync (part c.self.inside.pass) begun c.begin_once.ensures.steps) c.go_on-stage.ensures.steps)

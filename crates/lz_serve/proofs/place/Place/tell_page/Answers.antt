use Rattle.lz_serve.proofs.place.Place.tell_page.Goals as goal
use Rattle.std.proofs.Common.{◌≤◌, ℕ, sym, subst}
use Rattle.lz_list.{specs.Traces.{Trace, Begins}, proofs.Traces.Absence.{begins_itself}}
use Rattle.lz_board.specs.Seats.{part}
use Rattle.lz_serve.specs.Clients.{HasSeenIn}

pub returns-in-Some-clause-seen : goal.returns-in-Some-clause-seen
returns-in-Some-clause-seen g c = λ admitted was.
    let K = (part c.args.pass.now).known in
    let there = subst (HasSeenIn admitted K) c.in-Some.is was in
    (subst (λ (n : ℕ). n ≤ admitted) (sym c.tell_page.ensures.connection) there.0, subst (λ (t : Trace). Begins t K) (sym c.tell_page.ensures.seen) (begins_itself K))

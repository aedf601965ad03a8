use Rattle.lz_serve.proofs.place.Place.reply.Goals as goal
use Rattle.std.proofs.Common.{◌≤◌, ℕ, Option, sym, subst}
use Rattle.lz_list.{specs.Traces.{Trace, Begins}, proofs.Traces.Absence.{begins_itself}}
use Rattle.lz_board.specs.Seats.{part}
use Rattle.lz_serve.specs.Clients.{Asker, HasSeenIn, IsHeardOf}

pub returns-clause-seen : goal.returns-clause-seen
returns-clause-seen g c = λ admitted was.
    let K = (part c.args.pass.now).known in
    let there = subst (HasSeenIn admitted K) c.in-Some.is was in
    (subst (λ (n : ℕ). n ≤ admitted) (sym c.reply.ensures.connection) there.0, subst (λ (t : Trace). Begins t K) (sym c.reply.ensures.seen) (begins_itself K))

pub returns-clause-told : goal.returns-clause-told
returns-clause-told g c = λ waits.
    c.reply.ensures.told (λ heard. waits (subst (λ (a : Option Asker). IsHeardOf a c.args.granted.question) (sym c.in-Some.is) heard))

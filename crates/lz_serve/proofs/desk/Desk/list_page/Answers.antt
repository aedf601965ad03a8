use Rattle.lz_serve.proofs.desk.Desk.list_page.Goals as goal
use Rattle.std.proofs.Common.{option_map, subst}
use Rattle.lz_board.specs.Seats.{part}
use Rattle.lz_serve.{specs.Desks.{Knows}, proofs.Desks.{know_last}}

pub list_one-halted-requires-2-clause-seen : goal.list_one-halted-requires-2-clause-seen
list_one-halted-requires-2-clause-seen g c =
    let s = c.self.inside in
    subst (λ o. Knows s.crowd (option_map (λ free. (part free.pass).known) o) (part c.in-Some-pop.free.pass).known) c.in_default.is
    (know_last (λ free. (part free.pass).known) s.crowd (option_map (λ free. (part free.pass).known) s.meeting) s.free.items c.pop.new.self.items c.in-Some-pop.free c.in-Some-pop.ensures.items c.self.invariant.joined.know)

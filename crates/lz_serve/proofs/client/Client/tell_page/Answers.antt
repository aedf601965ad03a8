use Rattle.lz_serve.proofs.client.Client.tell_page.Goals as goal
use Rattle.std.proofs.Common.{ap, sym, subst}
use Rattle.lz_list.{specs.Traces.{Begins, Trace}, proofs.Traces.WalkEnd.{begins_before}}
use Rattle.lz_board.specs.Seats.{part}
use Rattle.lz_serve.{specs.Clients.{Asker}, proofs.PagesTold.{told_on}}

pub note_seen-requires : goal.note_seen-requires
note_seen-requires g c =
    let l = c.args.listed.now in
    let now = (part c.args.pass.now).known in
    let more = begins_before (part l.before).known (part l.after).known now c.requires.grows c.requires.after in
    subst (λ (t : Trace). Begins t now) (sym (ap (λ (a : Asker). a.seen) c.put_page.ensures.lines)) (begins_before c.args.self.now.seen (part l.before).known now c.requires.seen more)

pub returns-clause-paged : goal.returns-clause-paged
returns-clause-paged g c =
    let seen = (part c.args.pass.now).known in
    told_on c.args.self.now c.put_page.new.self c.note_seen.new.self c.tell_all.new.self c.args.listed.now.scan seen c.put_page.ensures.paged c.note_seen.ensures c.tell_all.ensures.lost c.tell_all.ensures.fewer

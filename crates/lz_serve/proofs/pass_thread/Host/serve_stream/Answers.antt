use Rattle.lz_serve.proofs.pass_thread.Host.serve_stream.Goals as goal
use Rattle.std.proofs.Common.{ap, sym, subst}
use Rattle.lz_list.specs.Traces.{Trace, Begins}
use Rattle.lz_board.specs.Seats.{part}
use Rattle.lz_serve.{specs.Clients.{Asker}, proofs.Crowds.{from_nothing}}

pub serve_client-requires-clause-seen : goal.serve_client-requires-clause-seen
serve_client-requires-clause-seen g c =
    let known = (part c.args.free.now.pass).known in
    subst (λ (t : Trace). Begins t known) (sym (ap (λ (a : Asker). a.seen) c.new-client.ensures)) (from_nothing known)

use Rattle.test_threads.proofs.tapes.serve_stream.Goals as goal
use Rattle.std.proofs.Common.{ap, subst, sym}
use Rattle.lz_list.specs.Traces.{Begins, Trace}
use Rattle.lz_board.specs.Seats.{part}
use Rattle.lz_serve.{specs.Clients.{Asker}, proofs.Crowds.{from_nothing}}

pub serve_client-requires-clause-seen : goal.serve_client-requires-clause-seen
serve_client-requires-clause-seen g c =
    let known = (part c.new-free.result.pass).known in
    subst (λ (t : Trace). Begins t known) (sym (ap (λ (a : Asker). a.seen) c.new-client.ensures)) (from_nothing known)

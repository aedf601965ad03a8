use Rattle.lz_serve.proofs.client.Client.note_seen.Goals as goal
use Rattle.std.proofs.Common.{sym, subst}
use Rattle.lz_list.specs.Traces.{Begins}
use Rattle.lz_board.specs.{declared.pass.Pass.{Pass}, Seats.{part}}
use Rattle.lz_serve.{specs.{Clients.{Asker, passes_of, seen_by}, Lines.{AreBefore}}, proofs.LinesUnderWay.{before_seen, earned_seen}}
use Rattle.lz_serve.proofs.TalksOnStreams.{known_so}

pub invariant_of-self : goal.invariant_of-self
invariant_of-self g c =
    let was = c.self.invariant in
    let from = c.self.inside in
    let t = from.talk in
    let P = g.S.Stream.promised in
    let seen = seen_by from.seen in
    let now = (part c.of.result.value).known in
    let puts = passes_of from.puts.items in
    let more : Begins seen now = subst (λ (p : Pass). Begins seen (part p).known) (sym c.of.ensures) (subst (λ (a : Asker). Begins a.seen (part c.args.pass.now).known) (sym c.self.view_is) c.requires) in (
      was.0,
      earned_seen P from.connection seen now t.told t.under puts more was.1,
      λ kept.
          known_so (AreBefore P seen t.under puts) g.S.Stream.listed from.connection (AreBefore P now t.under puts) (g.S.Stream.traffic from.stream) t (λ grants so. before_seen P seen now t.under puts grants more so) (was.2 kept),
      was.3,
      was.4,
    )
